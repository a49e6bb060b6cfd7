use Rattle.std.proofs.Common.{◌≡◌, ℕ, ◌<◌, length}
use Rattle.super_frame.specs.Reads.{Taken}
use Rattle.super_frame.proofs.taking.take_words.Given as goal

abbrev pub invariant-loop-slot : goal.invariant-loop-slot
invariant-loop-slot g l =
    (length l.block ≡ 1624) × (length l.rows ≡ 1624)
    × ((s : ℕ) → s < l.slot → Taken g.T.Element.idle l.first l.frames.slots l.frames.elements.now l.words s)
