-- A polynomial that annihilates enough of a word's power sums is zero at the places of all its bytes other than zero.
-- Assumes nothing.
use Rattle.std.proofs.Common.{◌≡◌, ℕ, zero, suc, ◌+◌, ◌-◌, ◌<◌, ◌≤◌, ◌≢◌, ◌⊎◌, List, [], ◌∷◌, length, get_or, sym, ◌∙◌, inl, inr, arith}
use Rattle.field256.specs.Field.{plus, times, power}
use Rattle.field256.proofs.Laws.{times_assoc, times_comm, times_left_comm, plus_times, zero_times, times_zero, no_zero_divisors, power_add, times_fits, plus_self}
use Rattle.code_theory.specs.Codeword.{Bytes, weight}
use Rattle.code_theory.specs.Sequences.{polynomial, paired, Values, place}
use Rattle.code_theory.proofs.Sums.{sum_none, sum_more, sum_fits}
use Rattle.code_theory.proofs.Totals.{total, scaled, total_plus, total_times, total_same, total_scaled, length_scaled, value_total, scaled_cons, total_nil, total_cons}
use Rattle.code_theory.proofs.Weights.{weight_scaled, bytes_scaled, total_weightless, weightless}
use Rattle.code_theory.proofs.Vanishing.{vanishing}

-- ---- the pairing

total_zero : (w : List ℕ) → total (λ x. 0) w ≡ 0
total_zero [] = total_nil (λ x. 0)
total_zero (b ∷ bs) = rw (total_cons, times_zero, total_zero bs) (plus_self 0)

pub polynomial_none : (p : List ℕ) (x : ℕ) → polynomial 0 p x ≡ 0
unfolding polynomial
polynomial_none p x = sum_none _

pub polynomial_more : (n : ℕ) (p : List ℕ) (x : ℕ) → polynomial (suc n) p x ≡ plus (polynomial n p x) (times (get_or p n 0) (power x n))
unfolding polynomial
polynomial_more n p x = sum_more n _

pub paired_none : (p s : List ℕ) (i : ℕ) → paired 0 p s i ≡ 0
unfolding paired
paired_none p s i = sum_none _

pub paired_more : (n : ℕ) (p s : List ℕ) (i : ℕ) → paired (suc n) p s i ≡ plus (paired n p s i) (times (get_or p n 0) (get_or s (i + n) 0))
unfolding paired
paired_more n p s i = sum_more n _

within_or : (a b : ℕ) → (a < b) ⊎ (b ≤ a)
within_or a b = search arith

-- one term of the pairing
term : (p s w : List ℕ) (i n : ℕ) → Bytes w → Values s w → (length s ≤ i + n → get_or p n 0 ≡ 0)
    → times (get_or p n 0) (get_or s (i + n) 0) ≡ total (λ x. times (times (get_or p n 0) (power x n)) (power x i)) w
term p s w i n f v z =
    elim (within_or (i + n) (length s)) [
      | inl l ↦ rw (v (i + n) l, value_total w (i + n) f)
          (sym (total_times (get_or p n 0) (λ x. power x (i + n)) w)
          ∙ total_same _ _ w (λ x. rw power_add (simp (times_assoc, times_comm, times_left_comm))))
      | inr l ↦ rw (z l, zero_times)
          (sym (total_same _ _ w (λ x. rw (zero_times, zero_times)) ∙ total_zero w))
    ]

pub pairing : (n : ℕ) (p s w : List ℕ) (i : ℕ) → Bytes w → Values s w → ((j : ℕ) → length s ≤ i + j → get_or p j 0 ≡ 0)
    → paired n p s i ≡ total (λ x. times (polynomial n p x) (power x i)) w
pairing zero p s w i f v z =
    paired_none p s i ∙ sym (total_same _ _ w (λ x. rw (polynomial_none, zero_times)) ∙ total_zero w)
pairing (suc n) p s w i f v z =
    rw (paired_more n p s i, pairing n p s w i f v z, term p s w i n f v (z n))
    (sym (total_plus (λ x. times (polynomial n p x) (power x i)) (λ x. times (times (get_or p n 0) (power x n)) (power x i)) w)
    ∙ total_same _ _ w (λ x. rw polynomial_more (sym (plus_times _ _ _))))

-- ---- what annihilates

module _ (w : List ℕ) (short : length w ≤ 255) (f : Bytes w) (g : ℕ → ℕ) (m : ℕ) (light : weight w ≤ m)
    (zeros : (i : ℕ) → i < m → total (λ x. times (g x) (power x i)) w ≡ 0) where
  pub scaled_away : weight (scaled g w) ≡ 0
  scaled_away =
      vanishing (length w) m (scaled g w) (length_scaled g w) short (bytes_scaled g w) (omega (arith, weight_scaled g w))
      (λ j h. total_scaled (λ x. power x j) g w ∙ zeros j h)

  pub annihilates : (i : ℕ) → total (λ x. times (g x) (power x i)) w ≡ 0
  annihilates i = sym (total_scaled (λ x. power x i) g w) ∙ total_weightless (λ x. power x i) (scaled g w) scaled_away

get_or_scaled : (g : ℕ → ℕ) (w : List ℕ) (k : ℕ) → k < length w → get_or (scaled g w) k 0 ≡ times (get_or w k 0) (g (place (length w) k))
get_or_scaled g [] k h = absurd (omega arith)
get_or_scaled g (b ∷ bs) zero h =
    let e : suc (length bs) - 1 - 0 ≡ length bs = omega arith in
    rw (scaled_cons, e)
get_or_scaled g (b ∷ bs) (suc k) h =
    let e : suc (length bs) - 1 - suc k ≡ length bs - 1 - k = omega arith in
    rw (scaled_cons, e) (get_or_scaled g bs k (omega arith))

pub zero_at : (g : ℕ → ℕ) (w : List ℕ) → Bytes w → ((x : ℕ) → g x < 256) → weight (scaled g w) ≡ 0
    → (k : ℕ) → k < length w → get_or w k 0 ≢ 0 → g (place (length w) k) ≡ 0
zero_at g w f fit none k h other =
    elim (no_zero_divisors (get_or w k 0) (g (place (length w) k)) (f k) (fit (place (length w) k))
    (sym (get_or_scaled g w k h) ∙ weightless (scaled g w) none k))
    [ inl z ↦ absurd (other z) | inr z ↦ z ]

pub polynomial_fits : (n : ℕ) (p : List ℕ) (x : ℕ) → polynomial n p x < 256
unfolding polynomial
polynomial_fits n p x = sum_fits n _ (λ j. times_fits (get_or p j 0) (power x j))
