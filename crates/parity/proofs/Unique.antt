-- Sixteen bytes are known by their values at the sixteen roots: so a word has one remainder, and data one set of check bytes.
-- Assumes nothing.
use Rattle.std.proofs.Common.{◌≡◌, ℕ, suc, ◌+◌, ◌^◌, ◌<◌, ◌≤◌, true, false, cond, eqb, ◌⊎◌, List, [], ◌∷◌, ◌++◌, length, sym, refl, ap, ◌∙◌, inl, inr, arith}
use lib.Bits.{bit_xor, xor_lt}
use Rattle.std.specs.Int.Digits.{number_from_digits}
use Rattle.field256.specs.Field.{plus, times, power}
use Rattle.field256.proofs.Laws.{plus_xor, plus_self, plus_same, zero_times}
use Rattle.code_theory.specs.Codeword.{value, value_from, Codeword, Bytes, distance}
use Rattle.code_theory.proofs.Distances.{near_same}
use Rattle.parity.specs.Remainder.{bytes_of, shifted, Remainder, Checks}
use Rattle.parity.proofs.Values.{value_append, value_shifted}
use Rattle.parity.proofs.Numbers.{length_bytes, bytes_fit, number_bytes, bytes_number, number_fits, number_below, at_number, at_zero, at_plus}

distance_bound : (u v : List ℕ) → distance u v ≤ length u
unfolding distance
distance_bound [] v = omega arith
distance_bound (a ∷ u) [] = omega arith
distance_bound (a ∷ u) (b ∷ v) =
    elim (eqb a b) as (λ t. cond t 0 1 + distance u v ≤ suc (length u))
    [ true ↦ omega (arith, distance_bound u v) | false ↦ omega (arith, distance_bound u v) ]

-- sixteen bytes that are zero at every root are zero
none_but_zero : (n : ℕ) → n < 2 ^ 128 → Codeword (bytes_of 16 n) → n ≡ 0
none_but_zero n h c =
    let size : length (bytes_of 16 n) ≡ 16 = length_bytes 16 n in
    sym (number_bytes 16 n h)
    ∙ ap (number_from_digits 256)
    (near_same (bytes_of 16 n) (bytes_of 16 0) (bytes_fit 16 n) (bytes_fit 16 0) (size ∙ sym (length_bytes 16 0)) (omega arith)
    c (λ j k. at_zero 16 (power 2 j)) (omega (arith, distance_bound (bytes_of 16 n) (bytes_of 16 0))))
    ∙ number_bytes 16 0 (omega arith)

same_number : (r s : ℕ) → r < 2 ^ 128 → s < 2 ^ 128
    → ((j : ℕ) → j < 16 → value (bytes_of 16 r) (power 2 j) ≡ value (bytes_of 16 s) (power 2 j)) → r ≡ s
same_number r s hr hs e =
    plus_same r s
    (none_but_zero (plus r s) (rw (plus_xor r s) (xor_lt 128 r s hr hs))
    (λ j h. at_plus 16 r s (power 2 j) ∙ rw (e j h) (plus_self (value (bytes_of 16 s) (power 2 j)))))

-- a list of sixteen bytes is the bytes of a number
same_sixteen : (d : List ℕ) (r : ℕ) → length d ≡ 16 → Bytes d → r < 2 ^ 128
    → ((j : ℕ) → j < 16 → value d (power 2 j) ≡ value (bytes_of 16 r) (power 2 j)) → d ≡ bytes_of 16 r
same_sixteen d r l f h e =
    let is : bytes_of 16 (number_from_digits 256 d) ≡ d = rw l at (bytes_number d f) in
    let fits : number_from_digits 256 d < 2 ^ 128 = rw l at (number_fits d f) in
    sym is ∙ ap (bytes_of 16) (same_number (number_from_digits 256 d) r fits h (λ j k. rw is (e j k)))

-- a word has one remainder
pub remainder_unique : (w : List ℕ) (r s : ℕ) → Remainder w r → Remainder w s → r ≡ s
remainder_unique w r s p q = same_number r s p.fits q.fits (λ j h. p.same j h ∙ sym (q.same j h))

-- it is zero at a codeword, and nowhere else
pub zero_at_codeword : (w : List ℕ) (r : ℕ) → Remainder w r → Codeword w → r ≡ 0
zero_at_codeword w r p h =
    same_number r 0 p.fits (omega arith) (λ j k. p.same j k ∙ h j k ∙ sym (at_zero 16 (power 2 j)))

pub codeword_at_zero : (w : List ℕ) (r : ℕ) → Remainder w r → r ≡ 0 → Codeword w
codeword_at_zero w r p z j h =
    sym (p.same j h) ∙ ap (λ (n : ℕ). value (bytes_of 16 n) (power 2 j)) z ∙ at_zero 16 (power 2 j)

-- the remainder of data, moved up by sixteen places, is its check bytes
pub checks : (u : List ℕ) (r : ℕ) → Bytes u → Remainder (shifted 16 u) r → Checks u (bytes_of 16 r)
checks u r f p =
    let c = bytes_of 16 r in
    let at : (j : ℕ) → j < 16 → value c (power 2 j) ≡ times (value u (power 2 j)) (power (power 2 j) 16)
    = λ j h. p.same j h ∙ value_shifted 16 u (power 2 j) f in
    let whole : (d : List ℕ) → length d ≡ 16 → (j : ℕ)
    → value (u ++ d) (power 2 j) ≡ plus (times (value u (power 2 j)) (power (power 2 j) 16)) (value d (power 2 j))
    = λ d l j. value_append u d (power 2 j) f ∙ rw l refl in
    record {
      size = length_bytes 16 r;
      bytes = bytes_fit 16 r;
      codeword = λ j h. whole c (length_bytes 16 r) j ∙ rw (at j h) (plus_self (times (value u (power 2 j)) (power (power 2 j) 16)));
      only = λ d l g k. same_sixteen d r l g p.fits
          (λ j h. sym (plus_same (times (value u (power 2 j)) (power (power 2 j) 16)) (value d (power 2 j)) (sym (whole d l j) ∙ k j h)) ∙ sym (at j h));
    }

value_none : (u : List ℕ) (x : ℕ) → length u ≡ 0 → value u x ≡ 0
unfolding value value_from
value_none [] x e = refl
value_none (b ∷ u) x e = absurd (omega arith)

-- the remainder of a word: that of all but its last sixteen bytes, moved up by as many places, and those bytes
pub remainder_split : (u v : List ℕ) (r : ℕ) → Bytes u → Bytes v → length v ≤ 16 → (length u ≡ 0) ⊎ (length v ≡ 16)
    → Remainder (shifted 16 u) r → Remainder (u ++ v) (bit_xor r (number_from_digits 256 v))
remainder_split u v r f g h either p = record {
  fits = xor_lt 128 r (number_from_digits 256 v) p.fits (number_below 16 v h g);
  same = λ j k.
      let x = power 2 j in
      ap (λ (n : ℕ). value (bytes_of 16 n) x) (sym (plus_xor r (number_from_digits 256 v))) ∙ at_plus 16 r (number_from_digits 256 v) x
      ∙ rw (p.same j k, value_shifted 16 u x f, at_number v x h g, value_append u v x f)
      (elim either [
        | inl e ↦ rw (value_none u x e, zero_times (power x 16), zero_times (power x (length v))) refl
        | inr e ↦ rw e refl
      ]);
}
