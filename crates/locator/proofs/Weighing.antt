-- The quotient's coefficients from the highest down: paired with a sequence, and as a value.
-- Assumes nothing.
use Rattle.std.proofs.Common.{◌≡◌, ℕ, suc, ◌-◌, ◌<◌, List, [], ◌∷◌, length, get_or, drop, reverse, sym, refl, ap, ◌∙◌, zero-add, drop-cons, arith}
use Rattle.std.specs.List.{zip}
use Rattle.std.proofs.lemmas.List.{get_or-reverse, get_or_default, length-reverse}
use Rattle.std.proofs.lemmas.Slice.Zip.{length-zip, get_or-zip}
use Rattle.field256.specs.Field.{plus, times, power}
use Rattle.field256.proofs.Laws.{plus_self, times_zero, zero_times, times_one, times_left_comm, power_zero, power_suc}
use Rattle.code_theory.specs.Codeword.{Bytes}
use Rattle.code_theory.specs.Sequences.{sum, polynomial, paired}
use Rattle.code_theory.proofs.Sums.{sum_none, sum_zero, sum_first, sum_same, sum_times}
use Rattle.locator.specs.Quotients.{horner}

-- products of two lists, place by place, added
pub dot : List ℕ → List ℕ → ℕ
dot [] s = 0
dot (a ∷ rest) [] = 0
dot (a ∷ rest) (b ∷ bs) = plus (times a b) (dot rest bs)

dot_sum : (q s : List ℕ) → dot q s ≡ sum (length q) (λ j. times (get_or q j 0) (get_or s j 0))
unfolding dot
dot_sum [] s = sym (sum_none (λ j. times 0 (get_or s j 0)))
dot_sum (a ∷ rest) [] = sym (sum_zero (suc (length rest)) (λ j. times (get_or (a ∷ rest) j 0) 0) (λ j l. times_zero (get_or (a ∷ rest) j 0)))
dot_sum (a ∷ rest) (b ∷ bs) =
    ap (plus (times a b)) (dot_sum rest bs) ∙ sym (sum_first (length rest) (λ j. times (get_or (a ∷ rest) j 0) (get_or (b ∷ bs) j 0)))

pub dot_paired : (q s : List ℕ) → dot q s ≡ paired (length q) q s 0
unfolding paired
dot_paired q s = dot_sum q s ∙ sum_same (length q) _ _ (λ j l. ap (λ (i : ℕ). times (get_or q j 0) (get_or s i 0)) (sym (zero-add j)))

pub horner_polynomial : (q : List ℕ) (x : ℕ) → Bytes q → horner q x ≡ polynomial (length q) q x
unfolding horner polynomial
horner_polynomial [] x f = sym (sum_none (λ j. times 0 (power x j)))
horner_polynomial (a ∷ rest) x f =
    let n : ℕ = length rest in
    let first : times a (power x 0) ≡ a = rw (power_zero x) (times_one a (f 0)) in
    let others : sum n (λ j. times (get_or rest j 0) (power x (suc j))) ≡ times x (sum n (λ j. times (get_or rest j 0) (power x j)))
    = sum_same n _ (λ j. times x (times (get_or rest j 0) (power x j))) (λ j l. rw (power_suc x j) (times_left_comm (get_or rest j 0) x (power x j)))
    ∙ sum_times n x (λ j. times (get_or rest j 0) (power x j)) in
    ap (λ (v : ℕ). plus a (times x v)) (horner_polynomial rest x (λ k. f (suc k)))
    ∙ sym (sum_first n (λ j. times (get_or (a ∷ rest) j 0) (power x j)) ∙ rw (first, others) refl)

-- nothing but zeros
pub horner_zeros : (q : List ℕ) (x : ℕ) → ((j : ℕ) → get_or q j 0 ≡ 0) → horner q x ≡ 0
unfolding horner
horner_zeros [] x z = refl
horner_zeros (a ∷ rest) x z = rw (z 0, horner_zeros rest x (λ j. z (suc j)), times_zero x) (plus_self 0)

pub dot_zeros : (q s : List ℕ) → ((j : ℕ) → get_or q j 0 ≡ 0) → dot q s ≡ 0
unfolding dot
dot_zeros [] s z = refl
dot_zeros (a ∷ rest) [] z = refl
dot_zeros (a ∷ rest) (b ∷ bs) z = rw (z 0, dot_zeros rest bs (λ j. z (suc j)), zero_times b) (plus_self 0)

-- one coefficient more
pub horner_more : (q : List ℕ) (x j : ℕ) → j < length q → horner (drop j q) x ≡ plus (get_or q j 0) (times x (horner (drop (suc j) q) x))
unfolding horner
horner_more q x j l = rw (drop-cons q j 0 l) refl

pub dot_more : (q s : List ℕ) (j : ℕ) → j < length q → j < length s
    → dot (drop j q) (drop j s) ≡ plus (times (get_or q j 0) (get_or s j 0)) (dot (drop (suc j) q) (drop (suc j) s))
unfolding dot
dot_more q s j l k = rw (drop-cons q j 0 l, drop-cons s j 0 k) refl

-- two lists of the same length, walked from the end
pub from_the_end : (ks vs : List ℕ) (d n a b : ℕ) → length ks ≡ d → length vs ≡ d
    → (n < length (zip (reverse ks) (reverse vs))) × ((a, b) ≡ get_or (zip (reverse ks) (reverse vs)) n (a, b))
    → (n < d) × (a ≡ get_or ks (d - suc n) 0) × (b ≡ get_or vs (d - suc n) 0)
from_the_end ks vs d n a b long too h =
    let below : n < d = omega (arith, h.0, length-zip (reverse ks) (reverse vs), length-reverse ks, length-reverse vs) in
    let pair : ◌≡◌ {A = ℕ × ℕ} (a, b) (get_or (reverse ks) n a, get_or (reverse vs) n b)
    = h.1 ∙ get_or-zip (reverse ks) (reverse vs) n (a, b) (omega (arith, length-reverse ks)) (omega (arith, length-reverse vs)) in
    let here : length ks - 1 - n ≡ d - suc n = omega arith in
    let there : length vs - 1 - n ≡ d - suc n = omega arith in (
      below,
      ap (λ (p : ℕ × ℕ). p.0) pair ∙ get_or_default (reverse ks) n a 0 (omega (arith, length-reverse ks)) ∙ get_or-reverse ks n 0 (omega arith) ∙ ap (λ (i : ℕ). get_or ks i 0) here,
      ap (λ (p : ℕ × ℕ). p.1) pair ∙ get_or_default (reverse vs) n b 0 (omega (arith, length-reverse vs)) ∙ get_or-reverse vs n 0 (omega arith) ∙ ap (λ (i : ℕ). get_or vs i 0) there,
    )
