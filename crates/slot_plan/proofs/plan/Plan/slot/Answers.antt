use Rattle.std.proofs.Common.{◌∙◌}
use Rattle.slot_plan.proofs.Checked.{plan_valid}
use Rattle.slot_plan.proofs.Carried.{slot_mode}
use Rattle.slot_plan.proofs.Numbers.{contained}
use Rattle.slot_plan.proofs.plan.Plan.slot.Goals as goal

pub returns-in_err-mode : goal.returns-in_err-mode
returns-in_err-mode c =
    let p = c.args.self.now in
    let inside = contained 1 p.fields.slots c.if-not-contains.ensures.cases c.new.ensures.start (c.new.ensures.end ∙ c.slots.ensures.value) in
    let m = slot_mode p.fields p.shaped.0 (plan_valid p) c.args.slot inside.0 inside.1 in
    absurd (c.in_err-mode.ensures m.0 m.1)
