use Rattle.std.proofs.Common.{◌≡◌, ℕ, ◌<◌, get_or}
use Rattle.interleaver.specs.Blocks.{place}
use Rattle.interleaver.proofs.calls.interleave.Given as goal

abbrev pub invariant-loop-k : goal.invariant-loop-k
invariant-loop-k g l = (k : ℕ) → k < l.k → get_or l.into k g.T.Element.idle ≡ get_or l.block (place 8 203 k) g.T.Element.idle
