use Rattle.locator.specs.Quotients.{Vanishes}
use Rattle.locator.proofs.values.polynomial_of.Given as goal

abbrev pub invariant-loop-degree : goal.invariant-loop-degree
invariant-loop-degree l = Vanishes l.places.len l.degree l.places.list l.coefficients
