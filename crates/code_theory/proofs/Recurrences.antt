-- One step of the search for the shortest recurrence of a sequence.
-- Assumes nothing.
use Rattle.std.proofs.Common.{◌≡◌, ℕ, ◌+◌, ◌-◌, ◌<◌, ◌≤◌, ◌⊎◌, List, length, get_or, sym, ap, ◌∙◌, inl, inr, add_assoc, arith}
use Rattle.std.proofs.lemmas.List.{get_or_past}
use Rattle.field256.specs.Field.{plus, times}
use Rattle.field256.proofs.Laws.{plus_assoc, plus_self, plus_fits, plus_times, times_assoc, times_zero, zero_times, times_fits}
use Rattle.code_theory.specs.Codeword.{Bytes}
use Rattle.code_theory.specs.Sequences.{sum, paired}
use Rattle.code_theory.proofs.Sums.{sum_same, sum_plus, sum_times, sum_split, sum_front, sum_fits}

pub paired_fits : (n : ℕ) (p s : List ℕ) (i : ℕ) → paired n p s i < 256
unfolding paired
paired_fits n p s i = sum_fits n _ (λ j. times_fits (get_or p j 0) (get_or s (i + j) 0))

-- r is a times base with c times other added, other moved up by shift places
pub record Mixed (r base other : List ℕ) (a c shift : ℕ) : Type 0 where
  pub low : (j : ℕ) → j < shift → get_or r j 0 ≡ times a (get_or base j 0)
  pub high : (j : ℕ) → get_or r (shift + j) 0 ≡ plus (times a (get_or base (shift + j) 0)) (times c (get_or other j 0))

split_at : (shift k : ℕ) → (k < shift) ⊎ (k ≡ shift + (k - shift))
split_at shift k = search arith

pub mixed_bytes : (r base other : List ℕ) (a c shift : ℕ) → Mixed r base other a c shift → Bytes r
mixed_bytes r base other a c shift m k =
    elim (split_at shift k) [
      | inl l ↦ rw (m.low k l) (times_fits a (get_or base k 0))
      | inr e ↦ rw (e, m.high (k - shift))
          (plus_fits _ _ (times_fits a (get_or base (shift + (k - shift)) 0)) (times_fits c (get_or other (k - shift) 0)))
    ]

pub paired_mixed : (size : ℕ) (r base other s : List ℕ) (a c shift i : ℕ) → shift ≤ size → Mixed r base other a c shift
    → ((j : ℕ) → size ≤ shift + j → get_or other j 0 ≡ 0)
    → paired size r s i ≡ plus (times a (paired size base s i)) (times c (paired size other s (i + shift)))
unfolding paired
paired_mixed size r base other s a c shift i h mixed z =
    let m : ℕ = size - shift in
    let whole : size ≡ shift + m = omega arith in
    let fr : ℕ → ℕ = λ j. times (get_or r j 0) (get_or s (i + j) 0) in
    let fb : ℕ → ℕ = λ j. times a (times (get_or base j 0) (get_or s (i + j) 0)) in
    let fo : ℕ → ℕ = λ j. times (get_or other j 0) (get_or s (i + shift + j) 0) in
    let lows : sum shift fr ≡ sum shift fb = sum_same shift fr fb (λ j l. rw (mixed.low j l) (times_assoc _ _ _)) in
    let highs : sum m (λ j. fr (shift + j)) ≡ plus (sum m (λ j. fb (shift + j))) (times c (sum m fo))
    = sum_same m _ (λ j. plus (fb (shift + j)) (times c (fo j)))
    (λ j l. rw (mixed.high j, ← add_assoc i shift j) (plus_times _ _ _ ∙ rw (times_assoc a, times_assoc c)))
    ∙ sum_plus m (λ j. fb (shift + j)) (λ j. times c (fo j))
    ∙ ap (plus (sum m (λ j. fb (shift + j)))) (sum_times m c fo) in
    let others : sum size fo ≡ sum m fo
    = sum_front m size fo (omega arith) (λ j l k. rw (z j (omega arith), zero_times)) in
    let left : sum size fr ≡ plus (sum shift fr) (sum m (λ j. fr (shift + j)))
    = ap (λ (n : ℕ). sum n fr) whole ∙ sum_split shift m fr in
    let right : sum size fb ≡ plus (sum shift fb) (sum m (λ j. fb (shift + j)))
    = ap (λ (n : ℕ). sum n fb) whole ∙ sum_split shift m fb in
    let factor : sum size fb ≡ times a (sum size (λ j. times (get_or base j 0) (get_or s (i + j) 0)))
    = sum_times size a (λ j. times (get_or base j 0) (get_or s (i + j) 0)) in
    left ∙ rw (lows, highs, others, ← factor, right) (sym (plus_assoc _ _ _))

-- no more is paired than the coefficients up to the degree
pub paired_front : (n m : ℕ) (p s : List ℕ) (i : ℕ) → m ≤ n → ((j : ℕ) → m ≤ j → get_or p j 0 ≡ 0) → paired n p s i ≡ paired m p s i
unfolding paired
paired_front n m p s i h z = sum_front m n _ h (λ j l k. rw (z j k) (zero_times (get_or s (i + j) 0)))

-- what is mixed within the size is all, where nothing of the other polynomial is moved beyond it
pub mixed_within : (size : ℕ) (r base other : List ℕ) (a c shift : ℕ) → length r ≡ size → length base ≡ size
    → ((j : ℕ) → j < shift → get_or r j 0 ≡ times a (get_or base j 0))
    → ((j : ℕ) → shift + j < size → get_or r (shift + j) 0 ≡ plus (times a (get_or base (shift + j) 0)) (times c (get_or other j 0)))
    → ((j : ℕ) → size ≤ shift + j → get_or other j 0 ≡ 0)
    → Mixed r base other a c shift
mixed_within size r base other a c shift lr lb low high past =
    record {
      low = low;
      high = λ j. elim (within_or (shift + j) size) [
        | inl l ↦ high j l
        | inr l ↦ rw (get_or_past r (shift + j) 0 (omega arith), get_or_past base (shift + j) 0 (omega arith), past j l, times_zero a, times_zero c) (sym (plus_self 0))
      ];
    }
  where
    within_or : (a b : ℕ) → (a < b) ⊎ (b ≤ a)
    within_or a b = search arith
