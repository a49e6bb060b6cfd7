-- Inverses: every element but zero has one, so a product is zero only with a factor.
-- Assumes nothing.
use Rattle.std.proofs.Common.{◌≡◌, ℕ, zero, suc, ◌<◌, Bool, T, eqb, ◌≢◌, ◌⊎◌, sym, refl, ap, ◌∙◌, inl, inr, arith, eqb→eq}
use Rattle.field256.specs.Field.{plus, reduced, twice, bitwise_product, times}
use Rattle.field256.proofs.Below.{every, at}
use Rattle.field256.proofs.Ring.{times_fits, times_comm, times_assoc, times_zero, one_times}

-- the product of the n powers s^2, s^4, s^8 and so on
squares : ℕ → ℕ → ℕ
squares zero s = 1
squares (suc n) s = times (times s s) (squares n (times s s))

-- the 254th power, which is the inverse of an element other than zero
pub inverse : ℕ → ℕ
inverse a = squares 7 a

inverse_test : ℕ → Bool
inverse_test a = eqb (times (suc a) (inverse (suc a))) 1

inverse_passes : T (every inverse_test 255)
unfolding inverse_test inverse squares times bitwise_product twice reduced plus
inverse_passes = tt

pub times_inverse : (a : ℕ) → a < 256 → a ≢ 0 → times a (inverse a) ≡ 1
unfolding inverse_test
times_inverse zero h n = absurd (n refl)
times_inverse (suc a) h n =
    let k : a < 255 = omega arith in
    eqb→eq (times (suc a) (inverse (suc a))) 1 (at inverse_test 255 inverse_passes a k)

pub inverse_fits : (a : ℕ) → inverse a < 256
unfolding inverse squares
inverse_fits a = times_fits (times a a) (squares 6 (times a a))

-- a factor other than zero may be taken away
pub times_cancel : (a b c : ℕ) → a < 256 → a ≢ 0 → b < 256 → c < 256 → times a b ≡ times a c → b ≡ c
times_cancel a b c ha na hb hc e =
    let undo : (x : ℕ) → x < 256 → times (inverse a) (times a x) ≡ x
    = λ x hx. sym (times_assoc (inverse a) a x) ∙ rw (times_comm (inverse a) a, times_inverse a ha na) (one_times x hx) in
    sym (undo b hb) ∙ ap (times (inverse a)) e ∙ undo c hc

zero_or : (a : ℕ) → (a ≡ 0) ⊎ (a ≢ 0)
zero_or a = search arith

pub no_zero_divisors : (a b : ℕ) → a < 256 → b < 256 → times a b ≡ 0 → (a ≡ 0) ⊎ (b ≡ 0)
no_zero_divisors a b ha hb e =
    elim (zero_or a) [ inl z ↦ inl z | inr n ↦ inr (times_cancel a b 0 ha n hb (omega arith) (e ∙ sym (times_zero a))) ]
