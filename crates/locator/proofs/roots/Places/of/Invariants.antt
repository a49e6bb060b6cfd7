use Rattle.std.proofs.Common.{◌+◌, ◌-◌, length}
use Rattle.locator.proofs.Rooting.{Sought}
use Rattle.locator.proofs.roots.Places.of.Given as goal

abbrev pub invariant-loop-place : goal.invariant-loop-place
invariant-loop-place l =
    Sought l.locator.coefficients l.locator.degree l.len (l.len - l.reach + length l.yielded) l.count l.list
