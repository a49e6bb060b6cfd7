use Rattle.slot_plan.proofs.Below.{active_by_units}
use Rattle.slot_plan.proofs.slots.Line.active_slots.Goals as goal

pub returns : goal.returns
returns c = let all = active_by_units c.args.self.mode c.args.self.slots in cc
