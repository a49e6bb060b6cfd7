-- Numbers whose bytes are values at the sixteen roots: sums of them, and the rule of the table of terms.
-- Assumes nothing.
use Rattle.std.proofs.Common.{◌≡◌, ℕ, zero, suc, ◌+◌, ◌-◌, ◌*◌, ◌/◌, ◌%◌, ◌^◌, ◌<◌, ◌≤◌, min, T, List, [], ◌∷◌, length, get_or, drop, sym, refl, ap, ◌∙◌, add-zero, mul_comm, zero-add, arith, length-drop}
use lib.Bits.{bit_xor}
use Rattle.std.specs.Int.Digits.{number_from_digits}
use Rattle.std.proofs.lemmas.List.{get_or-drop, drop-drop}
use Rattle.field256.specs.Field.{plus, times, power}
use Rattle.field256.proofs.Laws.{plus_xor, plus_zero, zero_plus, plus_self, plus_mod, plus_times, times_assoc, times_one, times_fits, power_zero, power_suc, power_mul}
use Rattle.field256.proofs.Sums.{plus_shr, plus_block}
use Rattle.field256.proofs.Listed.{lists, listed}
use Rattle.code_theory.specs.Codeword.{value, Bytes}
use Rattle.code_theory.specs.Sequences.{polynomial}
use Rattle.code_theory.proofs.Locating.{polynomial_none, polynomial_more}
use Rattle.parity.specs.Remainder.{bytes_of}
use Rattle.parity.proofs.Values.{value_append, one_byte, single}
use Rattle.parity.proofs.Numbers.{at_none, length_bytes, bytes_number, bits_bytes}

-- ---- sums, byte by byte

byte_plus : (m n k : ℕ) → plus m n / 256 ^ k % 256 ≡ plus (m / 256 ^ k % 256) (n / 256 ^ k % 256)
byte_plus m n k =
    rw (← bits_bytes k, plus_shr m n (8 * k)) (plus_mod (m / 2 ^ (8 * k)) (n / 2 ^ (8 * k)) 8)

pub bytes_plus : (k m n j : ℕ) → get_or (bytes_of k (plus m n)) j 0 ≡ plus (get_or (bytes_of k m) j 0) (get_or (bytes_of k n) j 0)
unfolding bytes_of
bytes_plus zero m n j = sym (plus_self 0)
bytes_plus (suc k) m n zero = byte_plus m n k
bytes_plus (suc k) m n (suc j) = bytes_plus k m n j

pub bytes_zero : (k j : ℕ) → get_or (bytes_of k 0) j 0 ≡ 0
unfolding bytes_of
bytes_zero zero j = refl
bytes_zero (suc k) zero = zero_byte k
  where
    zero_byte : (k : ℕ) → 0 / 256 ^ k % 256 ≡ 0
    zero_byte k = rw (← bits_bytes k) (ap (λ (n : ℕ). n / 2 ^ (8 * k) % 256) (sym (plus_self 0)) ∙ rw (plus_shr 0 0 (8 * k), plus_self) refl)
bytes_zero (suc k) (suc j) = bytes_zero k j

-- one term more
pub term_more : (p : List ℕ) (place all row j : ℕ) → get_or (bytes_of 16 all) j 0 ≡ polynomial place p (power 2 j)
    → get_or (bytes_of 16 row) j 0 ≡ times (get_or p place 0) (power (power 2 j) place)
    → get_or (bytes_of 16 (bit_xor all row)) j 0 ≡ polynomial (suc place) p (power 2 j)
term_more p place all row j a r =
    rw (← plus_xor all row, bytes_plus 16 all row j, a, r) (sym (polynomial_more place p (power 2 j)))

-- what an iterator over the coefficients has left, before and after one of them
pub one_read : (k : ℕ) (p : List ℕ) (c : ℕ) (rest : List ℕ) → drop k p ≡ c ∷ rest
    → (get_or p k 0 ≡ c) × (rest ≡ drop (k + 1) p) × (k < length p)
one_read k p c rest e =
    let here : get_or p k 0 ≡ c = ap (λ (i : ℕ). get_or p i 0) (sym (add-zero k)) ∙ sym (get_or-drop k p 0 0) ∙ ap (λ (xs : List ℕ). get_or xs 0 0) e in
    (here, sym (ap (drop 1) e) ∙ drop-drop 1 k p, omega (arith, length-drop k p, ap length e))

-- how many were read, where n of sixteen and m of the list's are left
pub all_read : (k n l m : ℕ) → n + k ≡ 16 → k ≤ l → m ≡ l - k → (0 < n → m ≡ 0) → k ≡ min l 16
all_read k zero l m some within left over = omega arith
all_read k (suc n) l m some within left over = omega (arith, over (omega arith))

-- ---- the table

-- t, t·q, t·q^2 and so on, n of them
unfoldable pub geometric : ℕ → ℕ → ℕ → List ℕ
geometric zero q t = []
geometric (suc n) q t = t ∷ geometric n q (times t q)

length_geometric : (n q t : ℕ) → length (geometric n q t) ≡ n
unfolding geometric
length_geometric zero q t = refl
length_geometric (suc n) q t = ap suc (length_geometric n q (times t q))

geometric_fits : (n q t : ℕ) → t < 256 → Bytes (geometric n q t)
unfolding geometric
geometric_fits zero q t h k = omega arith
geometric_fits (suc n) q t h zero = h
geometric_fits (suc n) q t h (suc k) = geometric_fits n q (times t q) (times_fits t q) k

geometric_at : (n q t j : ℕ) → t < 256 → j < n → get_or (geometric n q t) j 0 ≡ times t (power q j)
unfolding geometric
geometric_at zero q t j h l = absurd (omega arith)
geometric_at (suc n) q t zero h l = rw (power_zero q) (sym (times_one t h))
geometric_at (suc n) q t (suc j) h l =
    geometric_at n q (times t q) j (times_fits t q) (omega arith) ∙ rw (power_suc q j) (times_assoc t q (power q j))

-- the entry at place k: half a byte, low or high, at a coefficient
unfoldable pub entry : ℕ → ℕ
entry k = number_from_digits 256 (geometric 16 (power 2 (k / 32)) (k % 16 * 16 ^ (k / 16 % 2)))

power_swap : (i j : ℕ) → power (power 2 i) j ≡ power (power 2 j) i
power_swap i j = sym (power_mul 2 i j) ∙ ap (power 2) (mul_comm i j) ∙ power_mul 2 j i

pub entry_bytes : (place half t : ℕ) → half < 2 → t < 16 → (j : ℕ) → j < 16
    → get_or (bytes_of 16 (entry ((place * 2 + half) * 16 + t))) j 0 ≡ times (t * 16 ^ half) (power (power 2 j) place)
unfolding entry
entry_bytes place half t two h j l =
    let k : ℕ = (place * 2 + half) * 16 + t in
    let at : k / 32 ≡ place = omega arith in
    let low : k % 16 ≡ t = omega arith in
    let up : k / 16 ≡ place * 2 + half = omega arith in
    let which : k / 16 % 2 ≡ half = rw up (omega arith) in
    let b : ℕ = t * 16 ^ half in
    let fits : b < 256 = half_fits half t two h in
    let list : List ℕ = geometric 16 (power 2 place) b in
    let whole : bytes_of 16 (number_from_digits 256 list) ≡ list
    = rw (length_geometric 16 (power 2 place) b) at (bytes_number list (geometric_fits 16 (power 2 place) b fits)) in
    rw (at, low, which, whole, geometric_at 16 (power 2 place) b j fits l, power_swap place j) refl
  where
    half_fits : (half t : ℕ) → half < 2 → t < 16 → t * 16 ^ half < 256
    half_fits zero t two h = omega arith
    half_fits (suc zero) t two h = omega arith
    half_fits (suc (suc n)) t two h = absurd (omega arith)

halves : (c : ℕ) → plus (c % 16 * 16 ^ 0) (c / 16 * 16 ^ 1) ≡ c
halves c =
    let low : c % 16 * 16 ^ 0 ≡ 0 * 2 ^ 4 + c % 16 = omega arith in
    let high : c / 16 * 16 ^ 1 ≡ c / 16 * 2 ^ 4 + 0 = omega arith in
    rw (low, high) (plus_block 4 0 (c / 16) (c % 16) 0 (omega arith) (omega arith)
    ∙ rw (zero_plus (c / 16), plus_zero (c % 16)) (omega arith))

pub two_halves : (place c low high j : ℕ)
    → get_or (bytes_of 16 low) j 0 ≡ times (c % 16 * 16 ^ 0) (power (power 2 j) place)
    → get_or (bytes_of 16 high) j 0 ≡ times (c / 16 * 16 ^ 1) (power (power 2 j) place)
    → get_or (bytes_of 16 (bit_xor low high)) j 0 ≡ times c (power (power 2 j) place)
two_halves place c low high j is-low is-high =
    rw (← plus_xor low high, bytes_plus 16 low high j, is-low, is-high)
    (sym (plus_times (c % 16 * 16 ^ 0) (c / 16 * 16 ^ 1) (power (power 2 j) place)) ∙ rw (halves c) refl)

pub term_table : (ys : List ℕ) → T (lists entry 0 ys) → (k : ℕ) → k < length ys → get_or ys k 0 ≡ entry k
term_table ys t k h = listed entry ys t k h

-- ---- the bytes of a number as coefficients

pub low_first : (k n : ℕ) (p : List ℕ) (x : ℕ) → ((i : ℕ) → i < k → get_or p i 0 ≡ n / 256 ^ i % 256) → value (bytes_of k n) x ≡ polynomial k p x
unfolding bytes_of
low_first zero n p x e = at_none n x ∙ sym (polynomial_none p x)
low_first (suc k) n p x e =
    let t = n / 256 ^ k % 256 in
    value_append (t ∷ []) (bytes_of k n) x (single t (omega arith))
    ∙ rw (one_byte t x, length_bytes k n, low_first k n p x (λ i l. e i (omega arith)), polynomial_more k p x, e k (omega arith))
    (Rattle.field256.proofs.Laws.plus_comm (times t (power x k)) (polynomial k p x))

-- the k bytes of a number from the i-th on, lowest first
unfoldable pub low_bytes : ℕ → ℕ → ℕ → List ℕ
low_bytes i zero n = []
low_bytes i (suc k) n = n / 256 ^ i % 256 ∷ low_bytes (suc i) k n

pub length_low : (i k n : ℕ) → length (low_bytes i k n) ≡ k
unfolding low_bytes
length_low i zero n = refl
length_low i (suc k) n = ap suc (length_low (suc i) k n)

pub low_at : (i k n j : ℕ) → j < k → get_or (low_bytes i k n) j 0 ≡ n / 256 ^ (i + j) % 256
unfolding low_bytes
low_at i zero n j h = absurd (omega arith)
low_at i (suc k) n zero h = ap (λ (e : ℕ). n / 256 ^ e % 256) (sym (add-zero i))
low_at i (suc k) n (suc j) h =
    let e : suc i + j ≡ i + suc j = omega arith in
    low_at (suc i) k n j (omega arith) ∙ ap (λ (m : ℕ). n / 256 ^ m % 256) e

pub low_read : (m n k : ℕ) (bs : List ℕ) → bs ≡ low_bytes 0 m n → k < m → get_or bs k 0 ≡ n / 256 ^ k % 256
low_read m n k bs e h = rw e (low_at 0 m n k h ∙ ap (λ (i : ℕ). n / 256 ^ i % 256) (zero-add k))

-- sixteen coefficients that are the bytes of a number
pub low_values : (n : ℕ) (p : List ℕ) (x : ℕ) → p ≡ low_bytes 0 16 n → polynomial (min (length p) 16) p x ≡ value (bytes_of 16 n) x
low_values n p x e =
    let size : min (length p) 16 ≡ 16 = omega (arith, ap length e, length_low 0 16 n) in
    rw size (sym (low_first 16 n p x (λ i l. low_read 16 n i p e l)))
