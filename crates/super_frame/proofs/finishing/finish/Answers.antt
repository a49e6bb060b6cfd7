use Rattle.std.proofs.Common.{arith}
use Rattle.super_frame.proofs.Finished.{finished}
use Rattle.super_frame.proofs.finishing.finish.Goals as goal

pub returns : goal.returns
returns c = λ words staged.
    finished c.args.slots c.args.tmcc.now words c.args.bytes.now c.interleave_slots.new.bytes c.write_heads.new.bytes staged
    c.interleave_slots.ensures.slots c.write_heads.ensures.heads c.write_heads.ensures.slots (omega arith)
