use Rattle.std.proofs.Common.{◌≡◌, ◌≢◌, ℕ, refl, sym, ◌<◌, Option, Some, None, MatchOption, IsSomeAnd, ap, ◌∙◌, rules, arith}
use Rattle.field256.specs.Field.{times}
use Rattle.field256.proofs.Laws.{times_assoc, times_comm, times_one, zero_times}
use Rattle.locator.proofs.field.quotient.Goals as goal

-- R relates the inverse to what is made of it
divided : (o r : Option ℕ) (a b : ℕ) → a < 256 → (R : ℕ → ℕ → Type 0) → ((i q : ℕ) → R i q → q ≡ times a i)
    → MatchOption o (b ≡ 0) (λ i. (i < 256) × (times b i ≡ 1)) → MatchOption o (r ≡ None) (λ i. IsSomeAnd r (R i))
    → MatchOption r (b ≡ 0) (λ q. (b ≢ 0) × (times q b ≡ a))
divided None r a b fits R made zero e = rw e zero
divided (Some i) None a b fits R made one e = absurd e
divided (Some i) (Some q) a b fits R made one e = (
  λ none. zero_or_one (sym (zero_times i) ∙ (ap (λ (x : ℕ). times x i) (sym none) ∙ one.1)),
  ap (λ (x : ℕ). times x b) (made i q e) ∙ times_assoc a i b ∙ ap (times a) (times_comm i b ∙ one.1) ∙ times_one a fits,
)
  where
    zero_or_one : ◌≡◌ {A = ℕ} 0 1 → ⊥
    zero_or_one h = omega (arith, h)

pub returns : goal.returns
returns c = divided c.inverse.result c.map.result c.args.a c.args.b (omega arith) _ (λ i q e. search rules) c.inverse.ensures c.map.ensures.cases
