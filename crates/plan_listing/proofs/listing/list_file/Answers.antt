use Rattle.std.proofs.Common.{inl}
use Rattle.std.proofs.lemmas.Result.{IfOk-weaker}
use Rattle.plan_listing.proofs.listing.list_file.Goals as goal

pub returns-in-Ok : goal.returns-in-Ok
returns-in-Ok c =
    let plan = c.in-Ok.plan in
    IfOk-weaker _ _ _ (λ s e. inl (plan.fields, c.in-Ok.ensures.read, plan.valid, e)) c.list_plan.ensures
