use Rattle.std.proofs.Common.{◌≡◌, ℕ, ◌-◌, ◌<◌, length, get_or, ap, ◌∙◌, add-one, arith, length-take}
use Rattle.std.proofs.lemmas.List.{get_or-take}
use Rattle.field256.specs.Field.{power}
use Rattle.code_theory.specs.Sequences.{place}
use Rattle.locator.proofs.Widening.{vanishes_more}
use Rattle.locator.proofs.values.polynomial_of.Goals as goal

pub loop-degree-preserved : goal.loop-degree-preserved
loop-degree-preserved c =
    let places = c.args.places.now in
    let m = c.loop-degree.degree in
    let inside : m < places.count = omega (arith, length-take places.count places.list, ap length c.as_slice-place-items.ensures) in
    let here : get_or c.as_slice-place-items.result.now m 0 ≡ get_or places.list m 0
    = rw c.as_slice-place-items.ensures (get_or-take places.count places.list m 0 inside) in
    let at : c.exp.result ≡ place places.len (get_or places.list m 0)
    = c.exp.ensures ∙ ap (λ (k : ℕ). power 2 (places.len - 1 - k)) here in
    rw add-one
    (vanishes_more places.len m places.list c.loop-degree.coefficients c.widen.new.p c.exp.result at c.loop-degree.invariant c.widen.ensures.shape
    c.widen.ensures.product)
