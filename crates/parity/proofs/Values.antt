-- The value of a word, and of the bytes of a number.
-- Assumes nothing.
use Rattle.std.proofs.Common.{◌≡◌, ℕ, zero, suc, ◌<◌, List, [], ◌∷◌, ◌++◌, map, length, replicate, sym, refl, ap, ◌∙◌, arith}
use lib.ListN.{length-replicate}
use Rattle.field256.specs.Field.{plus, times, power}
use Rattle.field256.proofs.Laws.{plus_assoc, plus_zero, zero_plus, plus_fits, times_fits, times_assoc, plus_times, times_plus, times_zero, zero_times, times_one, power_zero, power_suc}
use Rattle.code_theory.specs.Codeword.{value, value_from, Bytes}
use Rattle.parity.specs.Remainder.{shifted}

-- ---- words

from_append : (acc : ℕ) (u v : List ℕ) (x : ℕ) → value_from acc (u ++ v) x ≡ value_from (value_from acc u x) v x
unfolding value_from
from_append acc [] v x = refl
from_append acc (b ∷ u) v x = from_append (plus (times acc x) b) u v x

-- a coefficient moved up by n places
moved : ℕ → ℕ → ℕ → ℕ
moved a zero x = a
moved a (suc n) x = moved (times a x) n x

moved_power : (a n x : ℕ) → a < 256 → moved a n x ≡ times a (power x n)
unfolding moved
moved_power a zero x h = rw (power_zero x) (sym (times_one a h))
moved_power a (suc n) x h =
    moved_power (times a x) n x (times_fits a x) ∙ rw (power_suc x n) (times_assoc a x (power x n))

from_plus : (a c : ℕ) (w : List ℕ) (x : ℕ) → value_from (plus a c) w x ≡ plus (moved a (length w) x) (value_from c w x)
unfolding value_from moved
from_plus a c [] x = refl
from_plus a c (b ∷ w) x =
    rw (plus_times a c x, plus_assoc (times a x) (times c x) b) (from_plus (times a x) (plus (times c x) b) w x)

-- what stands before a word, apart
from_apart : (a : ℕ) (w : List ℕ) (x : ℕ) → a < 256 → value_from a w x ≡ plus (times a (power x (length w))) (value w x)
unfolding value
from_apart a w x h =
    ap (λ (c : ℕ). value_from c w x) (sym (plus_zero a)) ∙ from_plus a 0 w x
    ∙ ap (λ (c : ℕ). plus c (value_from 0 w x)) (moved_power a (length w) x h)

from_fits : (a : ℕ) (w : List ℕ) (x : ℕ) → a < 256 → Bytes w → value_from a w x < 256
unfolding value_from
from_fits a [] x h f = h
from_fits a (b ∷ w) x h f = from_fits (plus (times a x) b) w x (plus_fits (times a x) b (times_fits a x) (f 0)) (λ k. f (suc k))

pub value_fits : (w : List ℕ) (x : ℕ) → Bytes w → value w x < 256
unfolding value
value_fits w x f = from_fits 0 w x (omega arith) f

pub value_push : (u : List ℕ) (b x : ℕ) → value (u ++ (b ∷ [])) x ≡ plus (times (value u x) x) b
unfolding value value_from
value_push u b x = from_append 0 u (b ∷ []) x

pub value_append : (u v : List ℕ) (x : ℕ) → Bytes u → value (u ++ v) x ≡ plus (times (value u x) (power x (length v))) (value v x)
unfolding value
value_append u v x f = from_append 0 u v x ∙ from_apart (value u x) v x (value_fits u x f)

from_zeros : (k x : ℕ) → value_from 0 (replicate k 0) x ≡ 0
unfolding value_from
from_zeros zero x = refl
from_zeros (suc k) x =
    ap (λ (a : ℕ). value_from a (replicate k 0) x) (plus_zero (times 0 x) ∙ zero_times x) ∙ from_zeros k x

pub value_zeros : (k x : ℕ) → value (replicate k 0) x ≡ 0
unfolding value
value_zeros k x = from_zeros k x

pub value_shifted : (k : ℕ) (w : List ℕ) (x : ℕ) → Bytes w → value (shifted k w) x ≡ times (value w x) (power x k)
unfolding shifted
value_shifted k w x f = value_append w (replicate k 0) x f ∙ rw (value_zeros k x, length-replicate {A = ℕ} k 0) (plus_zero (times (value w x) (power x k)))

-- every coefficient times one element
from_scaled : (t a : ℕ) (w : List ℕ) (x : ℕ) → value_from (times t a) (map (times t) w) x ≡ times t (value_from a w x)
unfolding value_from
from_scaled t a [] x = refl
from_scaled t a (b ∷ w) x =
    ap (λ (c : ℕ). value_from c (map (times t) w) x)
    (ap (λ (c : ℕ). plus c (times t b)) (times_assoc t a x) ∙ sym (times_plus t (times a x) b))
    ∙ from_scaled t (plus (times a x) b) w x

pub value_scaled : (t : ℕ) (w : List ℕ) (x : ℕ) → value (map (times t) w) x ≡ times t (value w x)
unfolding value
value_scaled t w x = ap (λ (a : ℕ). value_from a (map (times t) w) x) (sym (times_zero t)) ∙ from_scaled t 0 w x

-- a word of one byte
pub one_byte : (t x : ℕ) → value (t ∷ []) x ≡ t
unfolding value value_from
one_byte t x = rw (zero_times x) (zero_plus t)

pub single : (t : ℕ) → t < 256 → Bytes (t ∷ [])
single t h zero = h
single t h (suc k) = omega arith
