use Rattle.std.proofs.Common.{◌≡◌, ℕ, ◌-◌, ◌≢◌, true, rules, refl, sym, tests, arith}
use Rattle.std.proofs.lemmas.Iterator.{YieldsList-from_range, cases_from_all}
use Rattle.slot_plan.specs.Layout.{active, stream, ts_id}
use Rattle.slot_plan.proofs.Numbers.{decides_all}
use Rattle.slot_plan.proofs.fields.Fields.ts_id_is_right.Goals as goal

pub returns-else-not-is_active : goal.returns-else-not-is_active
returns-else-not-is_active c =
    let f = c.args.self.now in
    let rule = λ (k : ℕ). active f k ≡ true → stream f k ≢ stream f c.args.slot → ts_id f (stream f k) ≢ ts_id f (stream f c.args.slot) in
    let each = decides_all rule 1 (c.args.slot - 1) c.args.slot c.all.result (omega arith)
    (cases_from_all _ _ _ rule (λ k. rule k → ⊥) c.all.ensures.ran (YieldsList-from_range 1 c.args.slot _ refl refl)
    (λ x q k. search (rules, tests))
    (λ x q k. search (rules, tests))) in
    (λ yes _. each.0 yes, λ holds. each.1 (holds (sym c.if-not-is_active.ensures)))
