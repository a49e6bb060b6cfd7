use Rattle.std.proofs.Common.{ℕ, List, length, ap, rules, arith}
use Rattle.slot_plan.specs.declared.fault.PlanFault.TheVariants.{SlotCount}
use Rattle.slot_plan.proofs.Checked.{plan_valid}
use Rattle.plan_formats.specs.Formats.{file_fields, PlanFile}
use Rattle.plan_formats.proofs.Plans.{valid_beyond}
use Rattle.plan_formats.proofs.Recovered.{width_file}
use Rattle.plan_formats.proofs.Writing.{wrote_append, wrote_holds, as_written}
use Rattle.plan_formats.proofs.file.write_file.Goals as goal

pub new-bits-requires : goal.new-bits-requires
new-bits-requires c = omega (arith, (plan_valid c.args.plan.now SlotCount).1)

pub write-requires-4-clause-narrow : goal.write-requires-4-clause-narrow
write-requires-4-clause-narrow c =
    let room = (plan_valid c.args.plan.now SlotCount).1 in
    rw (c.widths.ensures, c.fields-fields.ensures) (omega arith, (omega arith, (omega arith, (room, (omega arith, omega arith)))))

pub returns-clause-file : goal.returns-clause-file
unfolding file_fields
returns-clause-file c =
    let p = c.args.plan.now in
    let f = p.fields in
    let same = c.fields-fields.ensures in
    let version = rw c.from.ensures at c.write-2.ensures in
    let slots = rw (c.from-2.ensures, same) at c.write-3.ensures in
    let rest = rw (c.widths.ensures, same) at c.write-4.ensures in
    let room = (plan_valid p SlotCount).1 in
    let wide = width_file f p.shaped room in
    let all = wrote_append _ _ c.write.ensures (wrote_append _ _ version (wrote_append _ _ slots rest)) in
    as_written (λ (l : List ℕ). PlanFile l f) _ c.write-4.new.bits.bytes.now (search rules)
    (record {
      shaped = p.shaped;
      room = room;
      beyond = valid_beyond f p.shaped (plan_valid p);
      holds = wrote_holds (file_fields f) c.new-bits.ensures.place (omega (arith, wide, ap length c.new-bits.ensures.bytes)) all;
    })
