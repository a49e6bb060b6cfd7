use Rattle.std.proofs.Common.{ℕ, List, length, refl, ap, rules, arith}
use Rattle.slot_plan.proofs.Checked.{plan_valid}
use Rattle.plan_formats.specs.Formats.{tmcc_fields, TmccData}
use Rattle.plan_formats.proofs.Plans.{valid_small}
use Rattle.plan_formats.proofs.Recovered.{width_tmcc}
use Rattle.plan_formats.proofs.Writing.{wrote_append, wrote_holds, as_written}
use Rattle.plan_formats.proofs.tmcc.Tmcc.write.Goals as goal

pub write-requires-2-clause-small : goal.write-requires-2-clause-small
write-requires-2-clause-small c =
    let p = c.args.self.now.plan in
    rw c.fields.ensures (valid_small p.fields p.shaped (plan_valid p))

pub returns-clause-states : goal.returns-clause-states
unfolding tmcc_fields
returns-clause-states c =
    let f = c.args.self.now.plan.fields in
    let order = c.args.self.now.order.value in
    let first = rw (c.from.ensures, c.value.ensures.value) at c.write.ensures in
    let rest = rw c.fields.ensures at c.write-2.ensures in
    let wide = width_tmcc order f c.args.self.now.plan.shaped in
    let holds = wrote_holds (tmcc_fields order f) c.new-bits.ensures.place (omega (arith, wide, ap length c.new-bits.ensures.bytes)) (wrote_append _ _ first rest) in
    as_written (λ (l : List ℕ). TmccData l f.slots order f) _ c.write-2.new.bits.bytes.now (search rules)
    (record { shaped = c.args.self.now.plan.shaped; frame = refl; holds = holds })
