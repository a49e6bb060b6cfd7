use Rattle.std.proofs.Common.{refl}
use Rattle.slot_plan.specs.declared.fault.PlanFault.TheVariants.{SlotCount}
use Rattle.slot_plan.proofs.Checked.{plan_valid}
use Rattle.slot_plan.proofs.plan.Plan.slots.Goals as goal

pub returns : goal.returns
returns c = record { value = refl; bound = plan_valid c.args.self.now SlotCount }
