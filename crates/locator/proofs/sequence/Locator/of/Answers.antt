use Rattle.std.proofs.Common.{min, arith}
use Rattle.locator.proofs.Located.{located}
use Rattle.locator.proofs.sequence.Locator.of.Goals as goal

pub loop-n-init : goal.loop-n-init
loop-n-init c = c.new-search.ensures.found c.args.sequence.now (min c.args.bound 8)

pub returns : goal.returns
returns c = located c.args.sequence.now (min c.args.bound 8) c.loop-n.n c.loop-n.search (omega arith) c.loop-n.invariant
