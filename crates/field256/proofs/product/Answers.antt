use Rattle.std.proofs.Common.{arith}
use Rattle.field256.proofs.Logarithms.{logarithm_product}
use Rattle.field256.proofs.product.Goals as goal

pub returns : goal.returns
returns c =
    let m = c.log_entry.ensures in
    let n = c.log_entry-2.ensures in
    logarithm_product c.args.a c.args.b c.log_entry.result c.log_entry-2.result c.exp_entry.result
    (omega arith) (omega arith) m.power m.zero n.power n.zero c.exp_entry.ensures.power c.exp_entry.ensures.zero
