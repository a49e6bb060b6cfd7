-- The rule of the table of rows: a byte times the generator at the first place, and then one step of the register after the other.
-- Assumes nothing.
use Rattle.std.proofs.Common.{◌≡◌, ℕ, zero, suc, ◌+◌, ◌*◌, ◌/◌, ◌%◌, ◌^◌, ◌<◌, Bool, true, false, T, eqb, List, [], ◌∷◌, ◌++◌, map, length, get_or, take, drop, replicate, sym, refl, ap, ◌∙◌, le_of_suc-le-suc, not-suc-le-zero, zero-add, arith, eqb→eq, length-drop, length-take}
use lib.Bits.{bit_xor, xor_zero_r}
use Rattle.std.specs.Int.Digits.{number_from_digits}
use Rattle.std.proofs.lemmas.List.{get_or-take, get_or-drop}
use Rattle.field256.specs.Field.{plus, reduced, twice, bitwise_product, times, power}
use Rattle.field256.proofs.Laws.{plus_zero, times_fits, times_assoc, times_comm, times_left_comm, power_add, power_suc}
use Rattle.field256.proofs.Below.{both, both_left, both_right, every, at}
use Rattle.field256.proofs.Listed.{lists, listed}
use Rattle.code_theory.specs.Codeword.{value, value_from, Bytes}
use Rattle.parity.specs.Remainder.{shifted, Remainder}
use Rattle.parity.proofs.Byte.{bytes_append, bytes_zeros}
use Rattle.parity.proofs.Values.{value_push, value_shifted, value_scaled, one_byte, single}
use Rattle.parity.proofs.Numbers.{at_number, number_below}
use Rattle.parity.proofs.Feeding.{fed_byte}

-- ---- the first place

-- the generator's coefficients below x^16, highest first
unfoldable pub generator : List ℕ
generator = 59 ∷ 13 ∷ 104 ∷ 189 ∷ 68 ∷ 209 ∷ 30 ∷ 8 ∷ 163 ∷ 65 ∷ 41 ∷ 229 ∷ 98 ∷ 50 ∷ 36 ∷ 59 ∷ []

-- at a root of the generator they have the value of x^16
root_test : ℕ → Bool
root_test j = eqb (value generator (power 2 j)) (power (power 2 j) 16)

roots_pass : T (every root_test 16)
unfolding root_test generator value value_from power times bitwise_product twice reduced plus
roots_pass = tt

at_root : (j : ℕ) → j < 16 → value generator (power 2 j) ≡ power (power 2 j) 16
unfolding root_test
at_root j h = eqb→eq (value generator (power 2 j)) (power (power 2 j) 16) (at root_test 16 roots_pass j h)

-- a byte times the generator
unfoldable pub first_row : ℕ → ℕ
first_row t = number_from_digits 256 (map (times t) generator)

scaled_bytes : (t : ℕ) (w : List ℕ) → Bytes (map (times t) w)
scaled_bytes t [] k = omega arith
scaled_bytes t (b ∷ w) zero = times_fits t b
scaled_bytes t (b ∷ w) (suc k) = scaled_bytes t w k

first_remainder : (t : ℕ) → t < 256 → Remainder (shifted 16 (t ∷ [])) (first_row t)
unfolding first_row generator
first_remainder t h =
    let w = map (times t) generator in
    let f = scaled_bytes t generator in
    record {
      fits = number_below 16 w (omega arith) f;
      same = λ j k.
          at_number w (power 2 j) (omega arith) f ∙ value_scaled t generator (power 2 j) ∙ ap (times t) (at_root j k)
          ∙ sym (value_shifted 16 (t ∷ []) (power 2 j) (single t h)
          ∙ ap (λ (v : ℕ). times v (power (power 2 j) 16)) (one_byte t (power 2 j)));
    }

-- ---- the places above it

-- a remainder is known by the word's values
like : (u v : List ℕ) (r : ℕ) → ((x : ℕ) → value u x ≡ value v x) → Remainder u r → Remainder v r
like u v r e p = record { fits = p.fits; same = λ j h. p.same j h ∙ e (power 2 j) }

bytes_shifted : (k : ℕ) (w : List ℕ) → Bytes w → Bytes (shifted k w)
unfolding shifted
bytes_shifted k w f = bytes_append w (replicate k 0) f (bytes_zeros k)

-- one step of the register, with a zero byte
unfoldable pub row_of : ℕ → ℕ → ℕ
row_of zero t = first_row t
row_of (suc place) t = bit_xor (row_of place t * 2 ^ 8 % 2 ^ 128) (first_row (row_of place t / 2 ^ 120))

pub row_remainder : (place t : ℕ) → t < 256 → Remainder (shifted (16 + place) (t ∷ [])) (row_of place t)
unfolding row_of
row_remainder zero t h = first_remainder t h
row_remainder (suc place) t h =
    let r = row_of place t in
    let w = shifted place (t ∷ []) in
    let fw = bytes_shifted place (t ∷ []) (single t h) in
    let before = row_remainder place t h in
    let top : r / 2 ^ 120 < 256 = omega (arith, before.fits) in
    let after =
    fed_byte r 0 (first_row (r / 2 ^ 120)) w before.fits (omega arith) fw
    (rw (xor_zero_r (r / 2 ^ 120)) (first_remainder (r / 2 ^ 120) top))
    (like (shifted (16 + place) (t ∷ [])) (shifted 16 w) r
    (λ x. value_shifted (16 + place) (t ∷ []) x (single t h)
    ∙ sym (value_shifted 16 w x fw ∙ rw (value_shifted place (t ∷ []) x (single t h), power_add x 16 place) (simp (times_assoc, times_comm, times_left_comm)))) before) in
    like (shifted 16 (w ++ (0 ∷ []))) (shifted (16 + suc place) (t ∷ [])) (row_of (suc place) t)
    (λ x. value_shifted 16 (w ++ (0 ∷ [])) x (bytes_append w (0 ∷ []) fw (single 0 (omega arith)))
    ∙ rw (
      value_push w 0 x,
      plus_zero (times (value w x) x),
      value_shifted place (t ∷ []) x (single t h),
      value_shifted (16 + suc place) (t ∷ []) x (single t h),
      power_add x 16 (suc place),
      power_suc x place,
    )
    (simp (times_assoc, times_comm, times_left_comm)))
    after

-- ---- the table

-- each entry of the second list is a step after that of the first
unfoldable pub follow : List ℕ → List ℕ → List ℕ → Bool
follow first xs [] = true
follow first [] (y ∷ ys) = false
follow first (x ∷ xs) (y ∷ ys) =
    both (eqb y (bit_xor (x * 2 ^ 8 % 2 ^ 128) (get_or first (x / 2 ^ 120) 0))) (follow first xs ys)

unfoldable pub tabled : List ℕ → Bool
tabled ys = both (lists first_row 0 (take 256 ys)) (follow (take 256 ys) ys (drop 256 ys))

follow_at : (first xs ys : List ℕ) → T (follow first xs ys) → (k : ℕ) → k < length ys
    → get_or ys k 0 ≡ bit_xor (get_or xs k 0 * 2 ^ 8 % 2 ^ 128) (get_or first (get_or xs k 0 / 2 ^ 120) 0)
unfolding follow
follow_at first xs [] t k h = absurd (not-suc-le-zero h)
follow_at first [] (y ∷ ys) t k h = absurd t
follow_at first (x ∷ xs) (y ∷ ys) t zero h =
    eqb→eq y (bit_xor (x * 2 ^ 8 % 2 ^ 128) (get_or first (x / 2 ^ 120) 0))
    (both_left (eqb y (bit_xor (x * 2 ^ 8 % 2 ^ 128) (get_or first (x / 2 ^ 120) 0))) (follow first xs ys) t)
follow_at first (x ∷ xs) (y ∷ ys) t (suc k) h =
    follow_at first xs ys (both_right (eqb y (bit_xor (x * 2 ^ 8 % 2 ^ 128) (get_or first (x / 2 ^ 120) 0))) (follow first xs ys) t) k (le_of_suc-le-suc h)

module _ (ys : List ℕ) (t : T (tabled ys)) where
  firsts : (k : ℕ) → k < 256 → k < length ys → get_or (take 256 ys) k 0 ≡ first_row k
  unfolding tabled
  firsts k h l =
      listed first_row (take 256 ys) (both_left (lists first_row 0 (take 256 ys)) (follow (take 256 ys) ys (drop 256 ys)) t) k
      (rw (length-take 256 ys) (omega arith))

  at_place : (place b : ℕ) → b < 256 → place * 256 + b < length ys → get_or ys (place * 256 + b) 0 ≡ row_of place b
  unfolding tabled row_of
  at_place zero b h l =
      ap (λ (i : ℕ). get_or ys i 0) (zero-add b) ∙ sym (get_or-take 256 ys b 0 h) ∙ firsts b h (omega arith)
  at_place (suc place) b h l =
      let i = place * 256 + b in
      let e : suc place * 256 + b ≡ 256 + i = omega arith in
      let r = row_of place b in
      let top : r / 2 ^ 120 < 256 = omega (arith, (row_remainder place b h).fits) in
      ap (λ (n : ℕ). get_or ys n 0) e ∙ sym (get_or-drop 256 ys i 0)
      ∙ follow_at (take 256 ys) ys (drop 256 ys) (both_right (lists first_row 0 (take 256 ys)) (follow (take 256 ys) ys (drop 256 ys)) t) i
      (rw (length-drop 256 ys) (omega arith))
      ∙ rw (at_place place b h (omega arith), firsts (r / 2 ^ 120) top (omega arith)) refl

  pub row_table : (k : ℕ) → k < length ys → get_or ys k 0 ≡ row_of (k / 256) (k % 256)
  row_table k h =
      let e : k ≡ k / 256 * 256 + k % 256 = omega arith in
      ap (λ (i : ℕ). get_or ys i 0) e ∙ at_place (k / 256) (k % 256) (omega arith) (omega arith)
