use Rattle.std.proofs.Common.{◌≡◌, ℕ, ◌+◌, ◌<◌, ◌≤◌, get_or}
use lib.Bits.{bit_xor}
use Rattle.dispersal.specs.Stages.{At, sequence}
use Rattle.dispersal.proofs.sequence.Sequence.add_each.Given as goal

abbrev pub invariant-loop-byte : goal.invariant-loop-byte
invariant-loop-byte l =
    ((n : ℕ) → At l.initial.self.window n →
    At l.self.window (n + l.byte-index)
    × ((k : ℕ) → k < l.byte-index → get_or l.bytes k 0 ≡ bit_xor (get_or l.initial.bytes k 0) (sequence (n + k))))
    × ((k : ℕ) → l.byte-index ≤ k → get_or l.bytes k 0 ≡ get_or l.initial.bytes k 0)
