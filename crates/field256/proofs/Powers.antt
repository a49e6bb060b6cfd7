-- Powers, and the powers of x, which reach every element but zero before they repeat.
-- Assumes nothing.
use Rattle.std.proofs.Common.{◌≡◌, ℕ, zero, suc, ◌+◌, ◌-◌, ◌*◌, ◌/◌, ◌%◌, ◌<◌, ◌≤◌, Bool, true, not, T, eqb, ◌≢◌, ◌⊎◌, sym, refl, ap, ◌∙◌, inl, inr, not-suc-le-zero, add-suc, suc-add, mul-zero, zero-add, mul-suc, arith, T_not}
use Rattle.field256.specs.Field.{plus, reduced, twice, bitwise_product, times, power}
use Rattle.field256.proofs.Below.{both, both_left, both_right}
use Rattle.field256.proofs.Ring.{times_fits, times_comm, times_assoc, one_times, times_one}
use Rattle.field256.proofs.Inverses.{times_cancel, no_zero_divisors}

pub power_zero : (a : ℕ) → power a 0 ≡ 1
unfolding power
power_zero a = refl

pub power_suc : (a n : ℕ) → power a (suc n) ≡ times a (power a n)
unfolding power
power_suc a n = refl

pub power_one : (a : ℕ) → a < 256 → power a 1 ≡ a
unfolding power
power_one a h = times_one a h

pub power_fits : (a n : ℕ) → power a n < 256
unfolding power
power_fits a zero = omega arith
power_fits a (suc n) = times_fits a (power a n)

pub power_add : (a m n : ℕ) → power a (m + n) ≡ times (power a m) (power a n)
unfolding power
power_add a zero n = ap (power a) (zero-add n) ∙ sym (one_times (power a n) (power_fits a n))
power_add a (suc m) n =
    ap (power a) (suc-add m n) ∙ ap (times a) (power_add a m n) ∙ sym (times_assoc a (power a m) (power a n))

pub power_mul : (a m n : ℕ) → power a (m * n) ≡ power (power a m) n
power_mul a m zero = ap (power a) (mul-zero m) ∙ power_zero a ∙ sym (power_zero (power a m))
power_mul a m (suc n) =
    ap (power a) (mul-suc m n) ∙ power_add a (m * n) m ∙ rw (power_mul a m n, power_suc (power a m) n) (times_comm (power (power a m) n) (power a m))

pub power_times : (a b n : ℕ) → power (times a b) n ≡ times (power a n) (power b n)
unfolding power
power_times a b zero = sym (one_times 1 (omega arith))
power_times a b (suc n) = rw (power_times a b n) (simp (times_assoc, times_comm))

pub power_nonzero : (a n : ℕ) → a < 256 → a ≢ 0 → power a n ≢ 0
unfolding power
power_nonzero a zero h k e = omega arith
power_nonzero a (suc n) h k e =
    elim (no_zero_divisors a (power a n) h (power_fits a n) e) [ inl z ↦ k z | inr z ↦ power_nonzero a n h k z ]

-- ---- powers of x

pub two_power_nonzero : (n : ℕ) → power 2 n ≢ 0
two_power_nonzero n = power_nonzero 2 n (omega arith) (omega arith)

pub two_power_255 : power 2 255 ≡ 1
unfolding power times bitwise_product twice reduced plus
two_power_255 = refl

one_power : (n : ℕ) → power 1 n ≡ 1
unfolding power
one_power zero = refl
one_power (suc n) = rw (one_power n) (one_times 1 (omega arith))

-- the powers of x come round after 255
pub two_power_mod : (n : ℕ) → power 2 (n % 255) ≡ power 2 n
two_power_mod n =
    let e : n ≡ 255 * (n / 255) + n % 255 = omega arith in
    sym (ap (power 2) e ∙ power_add 2 (255 * (n / 255)) (n % 255)
    ∙ rw (power_mul 2 255 (n / 255), two_power_255, one_power (n / 255)) (one_times (power 2 (n % 255)) (power_fits 2 (n % 255))))

-- products and inverses by logarithms
pub two_power_product : (a b m n : ℕ) → power 2 m ≡ a → power 2 n ≡ b → power 2 (m + n) ≡ times a b
two_power_product a b m n p q = power_add 2 m n ∙ rw (p, q) refl

pub two_power_inverse : (a n : ℕ) → n ≤ 255 → power 2 n ≡ a → times a (power 2 (255 - n)) ≡ 1
two_power_inverse a n h p =
    let e : n + (255 - n) ≡ 255 = omega arith in
    sym (two_power_product a (power 2 (255 - n)) n (255 - n) p refl) ∙ ap (power 2) e ∙ two_power_255

-- none of x, x·p, x^2·p and so on, n of them, is one
passes_one : ℕ → ℕ → Bool
passes_one zero p = true
passes_one (suc n) p = both (not (eqb p 1)) (passes_one n (times 2 p))

passes : T (passes_one 254 (power 2 1))
unfolding passes_one power times bitwise_product twice reduced plus
passes = tt

never_one : (n m : ℕ) → T (passes_one n (power 2 m)) → (k : ℕ) → k < n → power 2 (k + m) ≢ 1
unfolding passes_one power
never_one zero m t k h e = not-suc-le-zero h
never_one (suc n) m t zero h e =
    T_not (eqb (power 2 m) 1) (both_left (not (eqb (power 2 m) 1)) (passes_one n (times 2 (power 2 m))) t)
    (rw (ap (power 2) (sym (zero-add m)) ∙ e) tt)
never_one (suc n) m t (suc k) h e =
    never_one n (suc m) (both_right (not (eqb (power 2 m) 1)) (passes_one n (times 2 (power 2 m))) t) k (omega arith)
    (ap (power 2) (add-suc k m ∙ sym (suc-add k m)) ∙ e)

-- a power of x comes back after 255 steps at the soonest
apart : (i k : ℕ) → k < 254 → power 2 i ≢ power 2 (k + 1 + i)
apart i k h e =
    never_one 254 1 passes k h
    (sym (times_cancel (power 2 i) 1 (power 2 (k + 1)) (power_fits 2 i) (two_power_nonzero i) (omega arith) (power_fits 2 (k + 1))
    (times_one (power 2 i) (power_fits 2 i) ∙ e ∙ power_add 2 (k + 1) i ∙ times_comm (power 2 (k + 1)) (power 2 i))))

above : (i j : ℕ) → i < j → j < 255 → power 2 i ≢ power 2 j
above i j h k e =
    let same : j ≡ j - i - 1 + 1 + i = omega arith in
    apart i (j - i - 1) (omega arith) (e ∙ ap (power 2) same)

order : (i j : ℕ) → (i ≡ j) ⊎ ((i < j) ⊎ (j < i))
order i j = search arith

pub two_power_distinct : (i j : ℕ) → power 2 i ≡ power 2 j → i < 255 → j < 255 → i ≡ j
two_power_distinct i j e hi hj =
    elim (order i j) [
      | inl same ↦ same
      | inr (inl l) ↦ absurd (above i j l hj e)
      | inr (inr l) ↦ absurd (above j i l hi (sym e))
    ]
