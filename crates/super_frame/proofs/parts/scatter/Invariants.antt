use Rattle.std.proofs.Common.{ℕ, ◌<◌, ◌≢◌}
use Rattle.super_frame.specs.Parts.{SameHeads, SameSlot}
use Rattle.super_frame.proofs.Rows.{Rows}
use Rattle.super_frame.proofs.parts.scatter.Given as goal

abbrev pub invariant-loop-frame : goal.invariant-loop-frame
invariant-loop-frame l =
    Rows 0 l.slots l.slot l.bytes l.block l.frame × SameHeads l.slots l.initial.bytes l.bytes
    × ((other : ℕ) → other < l.slots → other ≢ l.slot → SameSlot l.slots l.initial.bytes l.bytes other)
