use Rattle.std.proofs.Common.{◌+◌, rules, refl, tests, arith, ◌∙◌}
use Rattle.std.proofs.lemmas.Iterator.{YieldsList-from_map, YieldsList-from_range}
use Rattle.std.proofs.lemmas.Iterator.Adapters.{fits_from_length, at_most_from_yields_List}
use Rattle.std.proofs.lemmas.Iterator.Consumers.{YieldsList-at, sum_from_yields_List}
use Rattle.std.proofs.lemmas.List.FromFn.{length-range_with_len}
use Rattle.slot_plan.proofs.Counted.{one, counted, byte_is, byte_le}
use Rattle.slot_plan.proofs.plan.Plan.active_slots.Goals as goal

pub sum-requires-clause-fits : goal.sum-requires-clause-fits
sum-requires-clause-fits c =
    let n = c.args.self.now.fields.slots in
    fits_from_length _ _ 48 _
    (at_most_from_yields_List
    (YieldsList-at c.map.ensures.source
    (YieldsList-from_range 1 (c.slots.result + 1) n refl (omega (arith, c.slots.ensures.value))))
    (omega (arith, length-range_with_len 1 n, c.slots.ensures.value, c.slots.ensures.bound.1)))
    c.map.ensures.closure (omega arith) (λ x r q k. search (rules, tests, byte_le))

pub returns : goal.returns
returns c =
    let f = c.args.self.now.fields in
    let n = f.slots in
    sum_from_yields_List c.map.result c.sum.result c.sum.ensures.ran
    (YieldsList-from_map _ (one f)
    (YieldsList-at c.map.ensures.source
    (YieldsList-from_range 1 (c.slots.result + 1) n refl (omega (arith, c.slots.ensures.value))))
    c.map.ensures.closure (λ x r q k. search (rules, byte_is)))
    ∙ counted f n
