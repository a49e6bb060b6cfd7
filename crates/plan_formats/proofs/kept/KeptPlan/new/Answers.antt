use Rattle.std.proofs.Common.{◌≡◌, ℕ, List, sym, subst}
use Rattle.slot_plan.specs.declared.fields.Fields.{Fields}
use Rattle.slot_plan.proofs.Checked.{plan_valid}
use Rattle.plan_formats.specs.Bits.{front}
use Rattle.plan_formats.specs.Body.{numbers, Run}
use Rattle.plan_formats.specs.Formats.{TmccData}
use Rattle.plan_formats.specs.Kept.{Keeps}
use Rattle.plan_formats.proofs.Stowed.{data_keeps}
use Rattle.plan_formats.proofs.kept.KeptPlan.new.Goals as goal

keeps :
    (f : Fields) (order : ℕ) (bytes : List ℕ) (slots : ℕ) (packed : List ℕ) → order ≡ 0 → slots ≡ f.slots → TmccData bytes f.slots order f →
    Run 0 0 (numbers 64 packed) (front bytes 384) 384 → Keeps slots packed f
keeps f order bytes slots packed zero frame states run =
    let first : TmccData bytes f.slots 0 f = subst (λ (o : ℕ). TmccData bytes f.slots o f) zero states in
    data_keeps bytes slots packed f (subst (λ (n : ℕ). TmccData bytes n 0 f) (sym frame) first) run

pub invariant_of-result : goal.invariant_of-result
invariant_of-result c =
    let f = c.args.plan.now.fields in
    let kept = keeps f c.first-order.result.value c.data-data.result c.slots.result c.pack.result
    c.first-order.ensures c.slots.ensures.value c.data-data.ensures.holds c.pack.ensures.run in
    record { keeps = ∣ (c.pack.ensures.len, c.pack.ensures.fit, (f, kept, plan_valid c.args.plan.now)) ∣₁ }
