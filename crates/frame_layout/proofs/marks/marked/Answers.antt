use Rattle.std.proofs.Common.{arith}
use Rattle.std.proofs.lemmas.Bool.Decides.{nat_tests}
use Rattle.frame_layout.specs.Marks.{marked}
use Rattle.frame_layout.proofs.marks.marked.Goals as goal

pub returns-then-stands : goal.returns-then-stands
unfolding marked
returns-then-stands c = grind (arith, nat_tests)

pub returns-else-stands : goal.returns-else-stands
unfolding marked
returns-else-stands c = grind (arith, nat_tests)
