use Rattle.std.proofs.Common.{◌≡◌, ℕ, ◌<◌, get_or}
use Rattle.hexadecimal.specs.Hex.{unhexed}
use Rattle.hexadecimal.proofs.read.HexText.to_vec.Given as goal

abbrev pub invariant-loop-k : goal.invariant-loop-k
invariant-loop-k l = (i : ℕ) → i < l.k → get_or l.byte-items i 0 ≡ get_or (unhexed l.fn.self.digits.now) i 0
