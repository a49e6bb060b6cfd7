use Rattle.std.proofs.Common.{arith}
use Rattle.locator.proofs.Widening.{joined, joined_value}
use Rattle.locator.proofs.values.widen.Goals as goal

pub returns : goal.returns
returns c =
    let p = c.args.p.now in
    let items = c.loop-coefficient.coefficient-items in
    let inv = c.loop-coefficient.invariant in
    record {
      shape = joined p c.args.degree c.args.x c.requires.shape c.requires.room items inv.size (λ j l. inv.made j (omega arith));
      product = joined_value p c.args.degree c.args.x c.requires.shape c.requires.room items inv.size (λ j l. inv.made j (omega arith));
    }
