use Rattle.slot_plan.proofs.Checked.{plan_valid}
use Rattle.plan_formats.proofs.Backwards.{tmcc_back, only_data}
use Rattle.plan_formats.proofs.tmcc.Tmcc.data.Goals as goal

pub returns-clause-back : goal.returns-clause-back
returns-clause-back c =
    let p = c.args.self.now.plan in
    tmcc_back c.write.new.bytes c.args.self.now.order.value p.fields c.write.ensures.states (plan_valid p)

pub returns-clause-only : goal.returns-clause-only
returns-clause-only c =
    only_data c.write.new.bytes c.args.self.now.order.value c.args.self.now.plan.fields c.write.ensures.bytes c.write.ensures.states
