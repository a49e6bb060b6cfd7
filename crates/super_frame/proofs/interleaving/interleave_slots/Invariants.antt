use Rattle.std.proofs.Common.{ℕ, ◌<◌, ◌≤◌}
use Rattle.super_frame.specs.Parts.{SameHeads, SameSlot, InterleavedSlot}
use Rattle.super_frame.proofs.interleaving.interleave_slots.Given as goal

abbrev pub invariant-loop-slot : goal.invariant-loop-slot
invariant-loop-slot l =
    ((s : ℕ) → s < l.slot → InterleavedSlot l.slots l.initial.bytes l.bytes s)
    × ((s : ℕ) → l.slot ≤ s → s < l.slots → SameSlot l.slots l.initial.bytes l.bytes s)
    × SameHeads l.slots l.initial.bytes l.bytes
