use Rattle.std.proofs.Common.{◌≡◌, ℕ, suc, ◌+◌, ◌-◌, List, [], ◌∷◌, ◌++◌, length, ◌∙◌, ap, add-one, arith}
use Rattle.std.proofs.lemmas.List.{length_push}
use Rattle.code_theory.specs.Sequences.{polynomial, place}
use Rattle.locator.proofs.Rooting.{sought_same, sought_found, searched, place_here, places_end}
use Rattle.locator.proofs.roots.Places.of.Goals as goal

pub loop-place-preserved-then-value-eq0 : goal.loop-place-preserved-then-value-eq0
loop-place-preserved-then-value-eq0 c =
    let locator = c.args.locator.now in
    let n : ℕ = c.args.len in
    let reach : ℕ = c.min-reach.result in
    let m : ℕ = length c.loop-place.yielded in
    let k : ℕ = n - reach + m in
    let values : List ℕ = c.values_at_powers-values.result in
    let h = place_here n reach values (omega arith) (omega (arith, c.values_at_powers-values.ensures.size)) c.loop-place.yielded c.into_iter-place-iterator.result
    c.loop-place.place-iterator c.next.new.self c.next.result (rw c.into_iter-place-iterator.ensures.into_iter_gives c.zip-place-items.ensures.first) (cc)
    c.loop-place.yielded_by c.next.ensures.steps _ c.in-Some.is in
    let next : n - reach + length (c.loop-place.yielded ++ (c.in-Some.place, c.in-Some.value) ∷ []) ≡ suc k
    = ap (λ (l : ℕ). n - reach + l) (length_push _ _) ∙ omega arith in
    let at : c.in-Some.value.now ≡ polynomial 9 locator.coefficients (place n k)
    = h.2 ∙ rw h.1 (c.values_at_powers-values.ensures.at (n - 1 - k) (omega (arith, h.0)) (omega (arith, h.0))) in
    rw (next, h.1, add-one c.loop-place.count)
    (sought_found locator.coefficients locator.degree n k c.loop-place.count c.loop-place.list c.loop-place.invariant locator.shape (omega (arith, h.0)) (omega (arith, h.0))
    c.in-Some.value.now at c.if-value-eq0.true)

pub loop-place-preserved : goal.loop-place-preserved
loop-place-preserved c =
    let locator = c.args.locator.now in
    let n : ℕ = c.args.len in
    let reach : ℕ = c.min-reach.result in
    let m : ℕ = length c.loop-place.yielded in
    let k : ℕ = n - reach + m in
    let values : List ℕ = c.values_at_powers-values.result in
    let h = place_here n reach values (omega arith) (omega (arith, c.values_at_powers-values.ensures.size)) c.loop-place.yielded c.into_iter-place-iterator.result
    c.loop-place.place-iterator c.next.new.self c.next.result (rw c.into_iter-place-iterator.ensures.into_iter_gives c.zip-place-items.ensures.first) (cc)
    c.loop-place.yielded_by c.next.ensures.steps _ c.in-Some.is in
    let next : n - reach + length (c.loop-place.yielded ++ (c.in-Some.place, c.in-Some.value) ∷ []) ≡ suc k
    = ap (λ (l : ℕ). n - reach + l) (length_push _ _) ∙ omega arith in
    let at : c.in-Some.value.now ≡ polynomial 9 locator.coefficients (place n k)
    = h.2 ∙ rw h.1 (c.values_at_powers-values.ensures.at (n - 1 - k) (omega (arith, h.0)) (omega (arith, h.0))) in
    rw (next, h.1)
    (sought_same locator.coefficients locator.degree n k c.loop-place.count c.loop-place.list c.loop-place.invariant locator.shape (omega (arith, h.0)) (omega (arith, h.0))
    c.in-Some.value.now at c.if-value-eq0.false)

pub invariant_of-result : goal.invariant_of-result
invariant_of-result c =
    let n : ℕ = c.args.len in
    let reach : ℕ = c.min-reach.result in
    let values : List ℕ = c.values_at_powers-values.result in
    let done = places_end n reach values (omega arith) (omega (arith, c.values_at_powers-values.ensures.size)) c.loop-place.yielded c.into_iter-place-iterator.result
    c.loop-place.place-iterator c.next.new.self c.next.result (rw c.into_iter-place-iterator.ensures.into_iter_gives c.zip-place-items.ensures.first) (cc)
    c.loop-place.yielded_by c.next.ensures.steps c.in-None.is in
    let roots = searched c.args.locator.now.coefficients c.args.locator.now.degree n _ c.loop-place.count c.loop-place.list done
    c.args.locator.now.shape.room c.loop-place.invariant in
    record {
      room = omega (arith, roots.room, c.args.locator.now.shape.room);
      within = roots.order.within;
      rising = roots.order.rising;
    }

pub returns-clause-roots : goal.returns-clause-roots
returns-clause-roots c =
    let n : ℕ = c.args.len in
    let reach : ℕ = c.min-reach.result in
    let values : List ℕ = c.values_at_powers-values.result in
    let done = places_end n reach values (omega arith) (omega (arith, c.values_at_powers-values.ensures.size)) c.loop-place.yielded c.into_iter-place-iterator.result
    c.loop-place.place-iterator c.next.new.self c.next.result (rw c.into_iter-place-iterator.ensures.into_iter_gives c.zip-place-items.ensures.first) (cc)
    c.loop-place.yielded_by c.next.ensures.steps c.in-None.is in
    let roots = searched c.args.locator.now.coefficients c.args.locator.now.degree n _ c.loop-place.count c.loop-place.list done
    c.args.locator.now.shape.room c.loop-place.invariant in
    roots
