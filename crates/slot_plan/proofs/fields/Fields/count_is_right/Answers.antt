use Rattle.std.proofs.Common.{◌≡◌, ℕ, ◌%◌, sym, ap, ◌∙◌, rules, tests, arith}
use native.Mathlib.Nat.{mod-zero}
use Rattle.std.proofs.lemmas.Bool.{false≢true}
use Rattle.slot_plan.specs.Layout.{word, count}
use Rattle.slot_plan.proofs.Options.{both}
use Rattle.slot_plan.proofs.Units.{no_unit}
use Rattle.slot_plan.proofs.fields.Fields.count_is_right.Goals as goal

pub returns : goal.returns
returns c =
    let f = c.args.self.now in
    let slots = count f c.args.line in
    let same = c.line-own.ensures.word in
    both c.mode.result c.mode.ensures c.is_some_and.ensures
    (λ unknown no.
    let none = (no_unit (word f c.args.line) (λ m e. unknown m (e ∙ sym same))).0 in (
      (λ e. absurd (false≢true (sym no ∙ e))),
      (λ rule.
          let whole = rule.1 (λ e. c.if-own-eq-UNUSED.false (same ∙ e)) in
          let zero : slots ≡ 0 = sym (ap (λ (u : ℕ). slots % u) none ∙ mod-zero slots) ∙ whole.1 in
          absurd (omega (arith, whole.0, zero))),
    ))
    (λ m known post. search (rules, tests))
