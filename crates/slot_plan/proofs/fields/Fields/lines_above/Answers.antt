use Rattle.std.proofs.Common.{ℕ, ◌-◌, ◌<◌, ◌≤◌, rules, refl, tests, arith}
use Rattle.std.proofs.lemmas.Iterator.{YieldsList-from_range, cases_from_all}
use Rattle.slot_plan.specs.Layout.{word}
use Rattle.slot_plan.proofs.Numbers.{decides_all}
use Rattle.slot_plan.proofs.fields.Fields.lines_above.Goals as goal

pub returns : goal.returns
returns c =
    let rule = λ (k : ℕ). (c.args.least < word c.args.self.now k) × (word c.args.self.now k ≤ 7) in
    decides_all rule 1 (c.args.line - 1) c.args.line c.all.result (omega arith)
    (cases_from_all _ _ _ rule (λ k. rule k → ⊥) c.all.ensures.ran (YieldsList-from_range 1 c.args.line _ refl refl)
    (λ x q k. search (rules, tests))
    (λ x q k. search (rules, tests)))
