use Rattle.std.proofs.Common.{refl}
use Rattle.code_theory.proofs.Distances.{one_near, none_near}
use Rattle.code_theory.proofs.largest_bound.Goals as goal

pub returns : goal.returns
returns c = record { number = refl; one = one_near; none = none_near }
