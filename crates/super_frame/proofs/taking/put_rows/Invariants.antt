use Rattle.std.proofs.Common.{ℕ, ◌<◌, ◌≢◌, length}
use Rattle.super_frame.specs.Reads.{RowsPut, SameWords}
use Rattle.super_frame.proofs.taking.put_rows.Given as goal

abbrev pub invariant-loop-frame : goal.invariant-loop-frame
invariant-loop-frame g l =
    (goal.iterator-loop-frame g).can_next l.frame-iterator × (goal.iterator-loop-frame g).is_finite l.frame-iterator
    × RowsPut g.T.Element.idle l.first l.slots l.slot (length l.yielded) l.rows l.words
    × ((other : ℕ) → other < l.slots → other ≢ l.slot → SameWords g.T.Element.idle l.slots l.initial.words l.words other)
