use Rattle.std.proofs.Common.{refl}
use Rattle.code_theory.proofs.Distances.{differ_in_17}
use Rattle.code_theory.proofs.Reached.{reached}
use Rattle.code_theory.proofs.minimum_distance.Goals as goal

pub returns : goal.returns
returns c = record { number = refl; apart = differ_in_17; reached = reached }
