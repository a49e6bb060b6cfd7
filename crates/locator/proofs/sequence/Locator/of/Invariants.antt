use Rattle.std.proofs.Common.{min}
use Rattle.locator.specs.Searches.{Found}
use Rattle.locator.proofs.sequence.Locator.of.Given as goal

abbrev pub invariant-loop-n : goal.invariant-loop-n
invariant-loop-n l = Found l.sequence (min l.bound 8) l.n l.search
