use Rattle.std.proofs.Common.{◌≡◌, true, false, rules, tests}
use Rattle.std.proofs.lemmas.Iterator.{first_from_find}
use Rattle.slot_plan.specs.Layout.{active}
use Rattle.slot_plan.proofs.Numbers.{YieldsList-from_range_back, last_from_rfind}
use Rattle.slot_plan.proofs.Options.{both}
use Rattle.slot_plan.proofs.fields.Fields.dummy_is_right.Goals as goal

pub returns : goal.returns
returns c =
    let f = c.args.self.now in
    let last = last_from_rfind (λ k. active f k ≡ true) (λ k. active f k ≡ false) 1 c.args.slot c.rfind.result
    (first_from_find _ _ _ (λ k. active f k ≡ true) (λ k. active f k ≡ false) c.rfind.ensures.ran (YieldsList-from_range_back _)
    (λ x q k. search (rules, tests))
    (λ x q k. search (rules, tests))) in
    both c.rfind.result last c.is_none_or.ensures
    (λ none yes. search (rules, tests))
    (λ x some post. search (rules, tests))
