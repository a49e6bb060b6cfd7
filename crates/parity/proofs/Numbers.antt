-- The value of a number's bytes: what exclusive or, a shift and a division do to it.
-- Assumes nothing.
use Rattle.std.proofs.Common.{◌≡◌, ℕ, zero, suc, ◌+◌, ◌-◌, ◌*◌, ◌/◌, ◌%◌, ◌^◌, ◌<◌, ◌≤◌, List, [], ◌∷◌, ◌++◌, length, fold, sym, refl, ap, ◌∙◌, ap₂, append_assoc, append-nil, add-zero, add-suc, mod-eq_of_lt, mul_assoc, mul_comm, add_comm, suc-add, pow-suc, zero-add, mul-one, mul-suc, div-one, add-one, arith, pow-add}
use native.Mathlib.Nat.{div-div-eq-div-mul, pow-le-pow_right}
use lib.Arith.{mod-mul, digits_div, digits_mod}
use lib.Bits.{bit_or, or_shifted}
use Rattle.field256.specs.Field.{plus, times, power}
use Rattle.field256.proofs.Laws.{ring, plus_self, plus_zero, zero_plus, times_assoc, times_comm, times_left_comm, zero_times, times_one, power_zero, power_suc, power_add, plus_mod}
use Rattle.field256.proofs.Sums.{plus_shr}
use Rattle.std.specs.Int.Digits.{number_from_digits, number_from_digits_after, AllBelowBase}
use Rattle.std.proofs.lemmas.Nat.{div_below}
use Rattle.std.proofs.lemmas.Int.Digits.{number_push, number_lt}
use Rattle.code_theory.specs.Codeword.{value, value_from, Bytes}
use Rattle.parity.specs.Remainder.{bytes_of}
use Rattle.parity.proofs.Values.{value_fits, value_push, value_append}

pub length_bytes : (k n : ℕ) → length (bytes_of k n) ≡ k
unfolding bytes_of
length_bytes zero n = refl
length_bytes (suc k) n = ap suc (length_bytes k n)

pub bytes_fit : (k n : ℕ) → Bytes (bytes_of k n)
unfolding bytes_of
bytes_fit zero n i = omega arith
bytes_fit (suc k) n zero = omega arith
bytes_fit (suc k) n (suc i) = bytes_fit k n i

quotient : (n k : ℕ) → n / 256 ^ suc k ≡ n / 256 / 256 ^ k
quotient n k = ap (λ (m : ℕ). n / m) (pow-suc 256 k ∙ mul_comm (256 ^ k) 256) ∙ sym (div-div-eq-div-mul n 256 (256 ^ k))

-- the lowest byte stands last
pub bytes_push : (k n : ℕ) → bytes_of (suc k) n ≡ bytes_of k (n / 256) ++ (n % 256 ∷ [])
unfolding bytes_of
bytes_push zero n = ap (λ (m : ℕ). m % 256 ∷ []) (div-one n)
bytes_push (suc k) n = ap₂ (λ (q : ℕ) (r : List ℕ). q % 256 ∷ r) (quotient n k) (bytes_push k n)

-- ---- the value of the k low bytes of a number

pub at_none : (n x : ℕ) → value (bytes_of 0 n) x ≡ 0
unfolding bytes_of value value_from
at_none n x = refl

pub at_more : (k n x : ℕ) → value (bytes_of (suc k) n) x ≡ plus (times (value (bytes_of k (n / 256)) x) x) (n % 256)
at_more k n x = rw (bytes_push k n) (value_push (bytes_of k (n / 256)) (n % 256) x)

pub at_fits : (k n x : ℕ) → value (bytes_of k n) x < 256
at_fits k n x = value_fits (bytes_of k n) x (bytes_fit k n)

pub at_plus : (k m n x : ℕ) → value (bytes_of k (plus m n)) x ≡ plus (value (bytes_of k m) x) (value (bytes_of k n) x)
at_plus zero m n x = simp (at_none, plus_zero)
at_plus (suc k) m n x =
    rw (at_more k (plus m n) x, at_more k m x, at_more k n x, plus_shr m n 8, plus_mod m n 8, at_plus k (m / 256) (n / 256) x)
    (simp ring)

-- the high bytes, moved up, and the low ones
pub at_split : (j k n x : ℕ) → value (bytes_of (j + k) n) x ≡ plus (times (value (bytes_of j (n / 256 ^ k)) x) (power x k)) (value (bytes_of k n) x)
at_split j zero n x =
    rw (add-zero j, div-one n, power_zero x, at_none n x, plus_zero (times (value (bytes_of j n) x) 1)) (sym (times_one (value (bytes_of j n) x) (at_fits j n x)))
at_split j (suc k) n x =
    rw (add-suc j k, at_more (j + k) n x, at_split j k (n / 256) x, at_more k n x, quotient n k, power_suc x k)
    (simp ring)

-- only the low bytes count
power_pos : (k : ℕ) → 0 < 256 ^ k
power_pos zero = omega arith
power_pos (suc k) = rw (pow-suc 256 k) (omega (arith, power_pos k))

low_bytes : (n k : ℕ) → n % 256 ^ suc k ≡ (n / 256 % 256 ^ k) * 256 + n % 256
low_bytes n k = ap (λ (m : ℕ). n % m) (pow-suc 256 k) ∙ mod-mul n (power_pos k) (omega arith)

pub at_low : (k n x : ℕ) → value (bytes_of k (n % 256 ^ k)) x ≡ value (bytes_of k n) x
at_low zero n x = at_none (n % 1) x ∙ sym (at_none n x)
at_low (suc k) n x =
    let h : n % 256 < 256 = omega arith in
    rw (low_bytes n k, at_more k ((n / 256 % 256 ^ k) * 256 + n % 256) x, at_more k n x, digits_div (n / 256 % 256 ^ k) h, digits_mod (n / 256 % 256 ^ k) h, at_low k (n / 256) x)

-- a shift by k bytes
shifted_down : (n k : ℕ) → n * 256 ^ suc k ≡ n * 256 ^ k * 256 + 0
shifted_down n k = ap (λ (m : ℕ). n * m) (pow-suc 256 k) ∙ sym (mul_assoc n (256 ^ k) 256) ∙ sym (add-zero (n * 256 ^ k * 256))

pub at_shift : (j k n x : ℕ) → value (bytes_of (j + k) (n * 256 ^ k)) x ≡ times (value (bytes_of j n) x) (power x k)
at_shift j zero n x =
    rw (add-zero j, mul-one n, power_zero x) (sym (times_one (value (bytes_of j n) x) (at_fits j n x)))
at_shift j (suc k) n x =
    let h : 0 < 256 = omega arith in
    rw (add-suc j k, shifted_down n k, at_more (j + k) (n * 256 ^ k * 256 + 0) x, digits_div (n * 256 ^ k) h, digits_mod (n * 256 ^ k) h, at_shift j k n x, power_suc x k)
    (plus_zero (times (times (value (bytes_of j n) x) (power x k)) x) ∙ simp (times_assoc, times_comm, times_left_comm))

pub at_byte : (t x : ℕ) → t < 256 → value (bytes_of 1 t) x ≡ t
at_byte t x h =
    at_more 0 t x ∙ rw (at_none (t / 256) x, zero_times x, mod-eq_of_lt h) (zero_plus t)

-- One step of the register: k bytes are fed in above its top, and its k top bytes go out, together as k bytes of which the row is the remainder.
pub step : (j k r d row x : ℕ)
    → value (bytes_of (j + k) row) x ≡ times (value (bytes_of k (plus (r / 256 ^ j) d)) x) (power x (j + k))
    → value (bytes_of (j + k) (plus (r * 256 ^ k % 256 ^ (j + k)) row)) x
    ≡ plus (times (value (bytes_of (j + k) r) x) (power x k)) (times (value (bytes_of k d) x) (power x (j + k)))
step j k r d row x e =
    rw (
      at_plus (j + k) (r * 256 ^ k % 256 ^ (j + k)) row x,
      at_low (j + k) (r * 256 ^ k) x,
      at_shift j k r x,
      e,
      at_plus k (r / 256 ^ j) d x,
      ap (λ (m : ℕ). value (bytes_of m r) x) (add_comm j k) ∙ at_split k j r x,
      power_add x j k,
    )
    (simp ring)

pub at_zero : (k x : ℕ) → value (bytes_of k 0) x ≡ 0
at_zero k x =
    ap (λ (n : ℕ). value (bytes_of k n) x) (sym (plus_self 0)) ∙ at_plus k 0 0 x ∙ plus_self (value (bytes_of k 0) x)

-- a number is what its bytes say
pub number_bytes : (k n : ℕ) → n < 256 ^ k → number_from_digits 256 (bytes_of k n) ≡ n
unfolding bytes_of
number_bytes zero n h = omega arith
number_bytes (suc k) n h =
    let q : n / 256 < 256 ^ k = div_below n 256 (256 ^ k) (omega arith) (rw (← pow-suc 256 k) h) in
    rw (bytes_push k n, number_push 256 (bytes_of k (n / 256)) (n % 256), number_bytes k (n / 256) q) (omega arith)

numbered_bytes : (k a : ℕ) (w : List ℕ) → Bytes w → bytes_of (k + length w) (number_from_digits_after 256 a w) ≡ bytes_of k a ++ w
numbered_bytes k a [] f = ap (λ (m : ℕ). bytes_of m a) (add-zero k) ∙ sym (append-nil (bytes_of k a))
numbered_bytes k a (b ∷ w) f =
    ap (λ (m : ℕ). bytes_of m (number_from_digits_after 256 (a * 256 + b) w)) (add-suc k (length w) ∙ sym (suc-add k (length w)))
    ∙ numbered_bytes (suc k) (a * 256 + b) w (λ i. f (suc i))
    ∙ rw (bytes_push k (a * 256 + b), digits_div a (f 0), digits_mod a (f 0)) (append_assoc (bytes_of k a) (b ∷ []) w)

pub bytes_number : (w : List ℕ) → Bytes w → bytes_of (length w) (number_from_digits 256 w) ≡ w
unfolding bytes_of
bytes_number w f = ap (λ (m : ℕ). bytes_of m (number_from_digits 256 w)) (sym (zero-add (length w))) ∙ numbered_bytes 0 0 w f

under : (w : List ℕ) → Bytes w → AllBelowBase 256 w
under [] f = tt
under (b ∷ w) f = (f 0, under w (λ i. f (suc i)))

pub number_fits : (w : List ℕ) → Bytes w → number_from_digits 256 w < 256 ^ length w
number_fits w f = number_lt 256 w (under w f)

pub number_below : (k : ℕ) (w : List ℕ) → length w ≤ k → Bytes w → number_from_digits 256 w < 256 ^ k
number_below k w h f =
    let up : 256 ^ length w ≤ 256 ^ k = pow-le-pow_right (omega arith) h in omega (arith, number_fits w f)

-- one more byte below those of a number of i bytes
byte_after : (n b i : ℕ) → n < 256 ^ i → i < 16 → b < 256 → bit_or (n * 2 ^ 8 % 2 ^ 128) b ≡ n * 256 + b
byte_after n b i h k l =
    let small : i ≤ 15 = omega arith in
    let up : 256 ^ i ≤ 256 ^ 15 = pow-le-pow_right (omega arith) small in
    let room : n * 2 ^ 8 < 2 ^ 128 = omega arith in
    rw (mod-eq_of_lt room) (or_shifted n 8 b l)

byte_after_fits : (n b i : ℕ) → n < 256 ^ i → b < 256 → n * 256 + b < 256 ^ (i + 1)
byte_after_fits n b i h l = rw (add-one i, pow-suc 256 i) (omega arith)

-- bytes below those of a number, one after the other
abbrev pub pushed : ℕ → ℕ → ℕ
pushed n b = bit_or (n * 2 ^ 8 % 2 ^ 128) b

pub pushed_all : (i n : ℕ) (w : List ℕ) → n < 256 ^ i → i + length w ≤ 16 → Bytes w → fold pushed n w ≡ number_from_digits_after 256 n w
pushed_all i n [] h few f = refl
pushed_all i n (b ∷ w) h few f =
    rw (byte_after n b i h (omega arith) (f 0))
    (pushed_all (i + 1) (n * 256 + b) w (byte_after_fits n b i h (f 0)) (omega arith) (λ k. f (suc k)))

-- a list of at most sixteen bytes, as the bytes of its number
pub at_number : (w : List ℕ) (x : ℕ) → length w ≤ 16 → Bytes w → value (bytes_of 16 (number_from_digits 256 w)) x ≡ value w x
at_number w x h f =
    let k = 16 - length w in
    let e : 16 ≡ k + length w = omega arith in
    ap (λ (m : ℕ). value (bytes_of m (number_from_digits 256 w)) x) e
    ∙ ap (λ (u : List ℕ). value u x) (numbered_bytes k 0 w f)
    ∙ value_append (bytes_of k 0) w x (bytes_fit k 0)
    ∙ rw (at_zero k x, zero_times (power x (length w))) (zero_plus (value w x))

-- a shift by k bytes, in bits
pub bits_bytes : (k : ℕ) → 2 ^ (8 * k) ≡ 256 ^ k
bits_bytes zero = refl
bits_bytes (suc k) =
    ap (λ (n : ℕ). 2 ^ n) (mul-suc 8 k) ∙ pow-add 2 (8 * k) 8 ∙ ap (λ (n : ℕ). n * 256) (bits_bytes k) ∙ sym (pow-suc 256 k)
