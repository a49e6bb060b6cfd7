use Rattle.std.proofs.Common.{arith}
use Rattle.std.proofs.lemmas.Bool.Decides.{nat_tests}
use Rattle.std.proofs.lemmas.Grind.{common_steps}
use Rattle.frame_layout.proofs.Whole.{whole_from}
use Rattle.frame_layout.proofs.marks.is_held.Goals as goal

pub returns : goal.returns
returns c =
    let same = whole_from c.args.slots c.args.stream.now c.args.place 8 (omega arith) in grind (arith, common_steps, nat_tests)
