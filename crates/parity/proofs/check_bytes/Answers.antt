use Rattle.parity.proofs.Unique.{checks}
use Rattle.parity.proofs.check_bytes.Goals as goal

pub returns : goal.returns
returns c =
    rw c.bytes_of.ensures
    (checks c.args.message.now c.divided.result (λ k. (c.type_inv.message k).fits) c.divided.ensures)
