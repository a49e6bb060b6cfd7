use Rattle.std.proofs.Common.{◌≡◌, ℕ, ◌<◌, ◌≤◌, get_or}
use lib.Bits.{bit_xor}
use Rattle.dispersal.proofs.sequence.Sequence.add_group.Given as goal

abbrev pub invariant-loop-k : goal.invariant-loop-k
invariant-loop-k l =
    ((i : ℕ) → i < l.k → get_or l.group i 0 ≡ bit_xor (get_or l.initial.group i 0) (get_or l.eight i 0))
    × ((i : ℕ) → l.k ≤ i → get_or l.group i 0 ≡ get_or l.initial.group i 0)
