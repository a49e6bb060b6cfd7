use Rattle.std.proofs.Common.{inr, sym, ◌∙◌}
use Rattle.slot_plan.proofs.Checked.{plan_valid}
use Rattle.slot_plan.proofs.Carried.{line_unused}
use Rattle.slot_plan.proofs.Numbers.{contained}
use Rattle.slot_plan.proofs.plan.Plan.line.Goals as goal

pub returns-in_err-mode : goal.returns-in_err-mode
returns-in_err-mode c =
    let p = c.args.self.now in
    let inside = contained 1 4 c.if-not-contains.ensures.cases c.new.ensures.start c.new.ensures.end in
    let none = line_unused p.fields (plan_valid p) c.args.line inside.0 inside.1 in
    rw c.from_residual.ensures (inr (inr (none (λ m e. c.in_err-mode.ensures m (e ∙ sym c.line-used.ensures.word)))))
