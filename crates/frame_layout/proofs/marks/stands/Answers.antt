use Rattle.std.proofs.Common.{◌+◌, arith}
use Rattle.std.proofs.lemmas.Bool.Decides.{nat_tests}
use Rattle.frame_layout.specs.Marks.{stands}
use Rattle.frame_layout.proofs.marks.stands.Goals as goal

pub returns : goal.returns
unfolding stands
returns c = grind (arith, nat_tests, c.type_inv.frames c.args.place, c.type_inv.frames (c.args.place + 1))
