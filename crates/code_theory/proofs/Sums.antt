-- Laws of finite sums.
-- Assumes nothing.
use Rattle.std.proofs.Common.{◌≡◌, ℕ, zero, suc, ◌+◌, ◌-◌, ◌<◌, ◌≤◌, ◌≢◌, ◌⊎◌, sym, refl, ap, ◌∙◌, inl, inr, add-zero, add-suc, arith}
use Rattle.field256.specs.Field.{plus, times}
use Rattle.field256.proofs.Laws.{plus_assoc, plus_comm, plus_left_comm, plus_zero, plus_self, times_plus, times_zero, plus_fits}
use Rattle.code_theory.specs.Sequences.{sum}

pub sum_none : (f : ℕ → ℕ) → sum 0 f ≡ 0
unfolding sum
sum_none f = refl

pub sum_more : (n : ℕ) (f : ℕ → ℕ) → sum (suc n) f ≡ plus (sum n f) (f n)
unfolding sum
sum_more n f = refl

pub sum_same : (n : ℕ) (f g : ℕ → ℕ) → ((j : ℕ) → j < n → f j ≡ g j) → sum n f ≡ sum n g
sum_same zero f g e = sum_none f ∙ sym (sum_none g)
sum_same (suc n) f g e = rw (sum_more n f, sum_more n g, e n (omega arith), sum_same n f g (λ j h. e j (omega arith)))

pub sum_zero : (n : ℕ) (f : ℕ → ℕ) → ((j : ℕ) → j < n → f j ≡ 0) → sum n f ≡ 0
sum_zero zero f e = sum_none f
sum_zero (suc n) f e = rw (sum_more n f, e n (omega arith), sum_zero n f (λ j h. e j (omega arith))) (plus_self 0)

pub sum_plus : (n : ℕ) (f g : ℕ → ℕ) → sum n (λ j. plus (f j) (g j)) ≡ plus (sum n f) (sum n g)
sum_plus zero f g = rw (sum_none f, sum_none g, sum_none) (sym (plus_self 0))
sum_plus (suc n) f g =
    rw (sum_more n (λ (j : ℕ). plus (f j) (g j)), sum_more n f, sum_more n g, sum_plus n f g) (simp (plus_assoc, plus_comm, plus_left_comm))

pub sum_times : (n c : ℕ) (f : ℕ → ℕ) → sum n (λ j. times c (f j)) ≡ times c (sum n f)
sum_times zero c f = rw (sum_none f, sum_none) (sym (times_zero c))
sum_times (suc n) c f = rw (sum_more n (λ (j : ℕ). times c (f j)), sum_more n f, sum_times n c f) (sym (times_plus c (sum n f) (f n)))

-- a sum in two parts
pub sum_split : (a m : ℕ) (f : ℕ → ℕ) → sum (a + m) f ≡ plus (sum a f) (sum m (λ j. f (a + j)))
sum_split a zero f = rw (add-zero, sum_none) (sym (plus_zero (sum a f)))
sum_split a (suc m) f =
    rw (add-suc, sum_more (a + m) f, sum_more m (λ (j : ℕ). f (a + j)), sum_split a m f) (plus_assoc _ _ _)

-- a sum by its first element
pub sum_first : (n : ℕ) (f : ℕ → ℕ) → sum (suc n) f ≡ plus (f 0) (sum n (λ j. f (suc j)))
sum_first zero f = rw (sum_more 0 f, sum_none f, sum_none (λ (j : ℕ). f (suc j))) (plus_comm 0 (f 0))
sum_first (suc n) f =
    rw (sum_more (suc n) f, sum_first n f, sum_more n (λ (j : ℕ). f (suc j))) (plus_assoc (f 0) (sum n (λ j. f (suc j))) (f (suc n)))

-- a sum whose later part is zero
pub sum_front : (a n : ℕ) (f : ℕ → ℕ) → a ≤ n → ((j : ℕ) → j < n → a ≤ j → f j ≡ 0) → sum n f ≡ sum a f
sum_front a n f h e =
    let same : n ≡ a + (n - a) = omega arith in
    ap (λ (m : ℕ). sum m f) same ∙ sum_split a (n - a) f
    ∙ ap (plus (sum a f)) (sum_zero (n - a) (λ j. f (a + j)) (λ j l. e (a + j) (omega arith) (omega arith)))
    ∙ plus_zero (sum a f)

pub sum_fits : (n : ℕ) (f : ℕ → ℕ) → ((j : ℕ) → f j < 256) → sum n f < 256
sum_fits zero f h = rw sum_none (omega arith)
sum_fits (suc n) f h = rw sum_more (plus_fits _ _ (sum_fits n f h) (h n))

-- a sum of which one element counts
pub sum_single : (n : ℕ) (f : ℕ → ℕ) (k : ℕ) → k < n → ((j : ℕ) → j < n → j ≢ k → f j ≡ 0) → sum n f ≡ f k
sum_single zero f k h e = absurd (omega arith)
sum_single (suc n) f k h e =
    elim (last_or n k h) [
      | inl last ↦ rw (sum_more n f, sum_zero n f (λ j l. e j (omega arith) (λ c. omega arith)), last) (plus_comm 0 (f n) ∙ plus_zero (f n))
      | inr below ↦ rw (sum_more n f, sum_single n f k below (λ j l c. e j (omega arith) c), e n (omega arith) (λ c. omega arith)) (plus_zero (f k))
    ]
  where
    last_or : (n k : ℕ) → k < suc n → (k ≡ n) ⊎ (k < n)
    last_or n k h = search arith

-- a double sum, the other way round
pub sum_swap : (n m : ℕ) (c : ℕ → ℕ) (f : ℕ → ℕ → ℕ)
    → sum n (λ a. times (c a) (sum m (λ k. f k a))) ≡ sum m (λ k. sum n (λ a. times (c a) (f k a)))
sum_swap n zero c f =
    sum_zero n _ (λ a l. rw (sum_none (λ (k : ℕ). f k a)) (times_zero (c a))) ∙ sym (sum_none (λ k. sum n (λ a. times (c a) (f k a))))
sum_swap n (suc m) c f =
    sum_same n _ (λ a. plus (times (c a) (sum m (λ k. f k a))) (times (c a) (f m a)))
    (λ a l. rw (sum_more m (λ (k : ℕ). f k a)) (times_plus (c a) (sum m (λ k. f k a)) (f m a)))
    ∙ sum_plus n (λ a. times (c a) (sum m (λ k. f k a))) (λ a. times (c a) (f m a))
    ∙ rw (sum_swap n m c f) (sym (sum_more m (λ k. sum n (λ a. times (c a) (f k a)))))
