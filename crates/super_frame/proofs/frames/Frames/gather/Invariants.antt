use Rattle.super_frame.proofs.Rows.{Rows}
use Rattle.super_frame.proofs.frames.Frames.gather.Given as goal

abbrev pub invariant-loop-frame : goal.invariant-loop-frame
invariant-loop-frame g l = Rows g.T.Element.idle l.self.slots l.slot l.self.elements.now l.block l.frame
