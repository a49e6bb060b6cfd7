use Rattle.std.proofs.Common.{◌≡◌, ℕ, ◌+◌, ◌*◌, take, drop}
use Rattle.dispersal.specs.Stages.{At, added}
use Rattle.dispersal.proofs.sequence.Sequence.add.Given as goal

abbrev pub invariant-loop-group : goal.invariant-loop-group
invariant-loop-group l =
    ((n : ℕ) → At l.initial.self.window n →
    At l.self.window (n + 8 * l.group)
    × (take (8 * l.group) l.bytes ≡ added n (take (8 * l.group) l.initial.bytes)))
    × (drop (8 * l.group) l.bytes ≡ drop (8 * l.group) l.initial.bytes)
