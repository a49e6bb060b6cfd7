use Rattle.std.proofs.Common.{◌≡◌, ℕ, true, rules, ◌∙◌, tests, arith}
use Rattle.std.proofs.lemmas.Iterator.{cases_from_any}
use Rattle.slot_plan.specs.Layout.{active, stream}
use Rattle.slot_plan.proofs.Numbers.{YieldsList-from_inclusive, decides_any}
use Rattle.slot_plan.proofs.plan.Plan.uses.Goals as goal

pub returns : goal.returns
returns c =
    let f = c.args.self.now.fields in
    let n = f.slots in
    let used = λ (k : ℕ). (active f k ≡ true) × (stream f k ≡ c.args.stream) in
    let some = decides_any used 1 n n c.any.result (omega arith)
    (cases_from_any _ _ c.any.result used (λ k. used k → ⊥) c.any.ensures.ran
    (YieldsList-from_inclusive 1 n n c.new.ensures.start (c.new.ensures.end ∙ c.slots.ensures.value) c.new.ensures.exhausted (omega arith))
    (λ x q k. search (rules, tests))
    (λ x q k. search (rules, tests))) in
    (λ yes. let u = some.0 yes in (u.0, u.1, u.2, u.3.0, u.3.1), λ u. some.1 (u.0, u.1, u.2, (u.3, u.4)))
