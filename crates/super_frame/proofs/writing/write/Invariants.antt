use Rattle.std.proofs.Common.{length}
use Rattle.super_frame.specs.Progress.{Begun}
use Rattle.super_frame.proofs.writing.write.Given as goal

abbrev pub invariant-loop-frame : goal.invariant-loop-frame
invariant-loop-frame l =
    (goal.iterator-loop-frame).can_next l.frame-iterator × (goal.iterator-loop-frame).is_finite l.frame-iterator
    × Begun l.plan.fields l.fn.packets (length l.yielded) 0 l.sequence.window l.out
