use Rattle.dispersal.proofs.Places.{at_start, begins}
use Rattle.std.proofs.Common.{arith}
use Rattle.dispersal.proofs.sequence.Sequence.new.Goals as goal

pub invariant_of-result : goal.invariant_of-result
invariant_of-result c = record { room = omega arith; reached = ∣ (0, at_start) ∣₁ }

pub returns : goal.returns
returns c = record { start = at_start; begins = begins }
