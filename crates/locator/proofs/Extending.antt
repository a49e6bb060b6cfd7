-- Errors that have the first values of a sequence, at roots of a polynomial that annihilates it, have all its values.
-- Assumes nothing.
use Rattle.std.proofs.Common.{◌≡◌, ℕ, zero, suc, ◌+◌, ◌-◌, ◌<◌, ◌≤◌, ◌⊎◌, List, get_or, sym, ap, ◌∙◌, inl, inr, arith}
use Rattle.field256.specs.Field.{times, power}
use Rattle.field256.proofs.Laws.{plus_same, times_assoc, times_left_comm, times_zero, zero_times, times_fits, times_cancel, power_add}
use Rattle.code_theory.specs.Codeword.{Bytes}
use Rattle.code_theory.specs.Sequences.{sum, polynomial, paired, place}
use Rattle.code_theory.proofs.Sums.{sum_more, sum_zero, sum_same, sum_times, sum_front, sum_fits, sum_swap}
use Rattle.locator.specs.Roots.{OfDegree}
use Rattle.locator.specs.Errors.{error_value}

module _ (n count : ℕ) (places values s : List ℕ) (sb : Bytes s) (p : List ℕ) (shape : OfDegree 9 count p)
    (zeros : (m : ℕ) → m < count → polynomial 9 p (place n (get_or places m 0)) ≡ 0)
    (annihilates : (i : ℕ) → i + count < 16 → paired 9 p s i ≡ 0)
    (meets : (j : ℕ) → j < count → error_value n count places values j ≡ get_or s j 0) where
  error_fits : (j : ℕ) → error_value n count places values j < 256
  unfolding error_value
  error_fits j = sum_fits count _ (λ m. times_fits (get_or values m 0) (power (place n (get_or places m 0)) j))

  one_place : (i m : ℕ) → m < count → sum 9 (λ a. times (get_or p a 0) (times (get_or values m 0) (power (place n (get_or places m 0)) (i + a)))) ≡ 0
  unfolding polynomial
  one_place i m l =
      let y : ℕ = get_or values m 0 in
      let x : ℕ = place n (get_or places m 0) in
      sum_same 9 _ (λ a. times (times y (power x i)) (times (get_or p a 0) (power x a)))
      (λ a b. rw (power_add x i a) (simp (times_assoc, times_left_comm)))
      ∙ sum_times 9 (times y (power x i)) (λ a. times (get_or p a 0) (power x a))
      ∙ ap (times (times y (power x i))) (zeros m l) ∙ times_zero (times y (power x i))

  -- the polynomial annihilates the values of the errors too
  errors_gone : (i : ℕ) → sum 9 (λ a. times (get_or p a 0) (error_value n count places values (i + a))) ≡ 0
  unfolding error_value
  errors_gone i =
      sum_swap 9 count (λ a. get_or p a 0) (λ m a. times (get_or values m 0) (power (place n (get_or places m 0)) (i + a)))
      ∙ sum_zero count _ (λ m l. one_place i m l)

  -- what annihilates gives the element at its lead from those before
  led : (f : ℕ → ℕ) → sum 9 (λ a. times (get_or p a 0) (f a)) ≡ 0 → sum count (λ a. times (get_or p a 0) (f a)) ≡ times (get_or p count 0) (f count)
  led f z =
      plus_same _ _ (sym (sum_more count (λ a. times (get_or p a 0) (f a)))
      ∙ sym (sum_front (suc count) 9 (λ a. times (get_or p a 0) (f a)) shape.room (λ a l k. rw (shape.top a k) (zero_times (f a)))) ∙ z)

  sequence_gone : (i : ℕ) → i + count < 16 → sum 9 (λ a. times (get_or p a 0) (get_or s (i + a) 0)) ≡ 0
  unfolding paired
  sequence_gone i k = annihilates i k

  below_or : (j c : ℕ) → (j < c) ⊎ (c ≤ j)
  below_or j c = search arith

  extended_to : (m j : ℕ) → j < m → j < 16 → error_value n count places values j ≡ get_or s j 0
  extended_to zero j l small = absurd (omega arith)
  extended_to (suc m) j l small =
      elim (below_or j count) [
        | inl b ↦ meets j b
        | inr b ↦
            let i : ℕ = j - count in
            let here : i + count ≡ j = omega arith in
            let before : sum count (λ a. times (get_or p a 0) (error_value n count places values (i + a))) ≡ sum count (λ a. times (get_or p a 0) (get_or s (i + a) 0))
            = sum_same count _ _ (λ a k. ap (times (get_or p a 0)) (extended_to m (i + a) (omega arith) (omega arith))) in
            let last : times (get_or p count 0) (error_value n count places values (i + count)) ≡ times (get_or p count 0) (get_or s (i + count) 0)
            = sym (led (λ a. error_value n count places values (i + a)) (errors_gone i)) ∙ before
            ∙ led (λ a. get_or s (i + a) 0) (sequence_gone i (omega arith)) in
            ap (error_value n count places values) (sym here)
            ∙ times_cancel (get_or p count 0) _ _ (shape.bytes count) shape.lead (error_fits (i + count)) (sb (i + count)) last
            ∙ ap (λ (k : ℕ). get_or s k 0) here
      ]

  pub extended : (j : ℕ) → j < 16 → error_value n count places values j ≡ get_or s j 0
  extended j small = extended_to (suc j) j (omega arith) small
