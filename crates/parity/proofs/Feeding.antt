-- Bytes fed into the register, several at once.
-- Assumes nothing.
use Rattle.std.proofs.Common.{◌≡◌, ℕ, suc, ◌+◌, ◌*◌, ◌/◌, ◌%◌, ◌^◌, ◌<◌, List, [], ◌∷◌, ◌++◌, length, sym, refl, ap, ◌∙◌, subst, arith}
use lib.Bits.{bit_xor, xor_lt}
use Rattle.field256.specs.Field.{plus, times, power}
use Rattle.field256.proofs.Laws.{ring, plus_xor, power_add}
use Rattle.code_theory.specs.Codeword.{value, Bytes}
use Rattle.parity.specs.Remainder.{bytes_of, shifted, Remainder}
use Rattle.parity.proofs.Byte.{bytes_append}
use Rattle.parity.proofs.Values.{value_append, value_shifted, value_zeros, one_byte, single}
use Rattle.parity.proofs.Numbers.{step, at_byte, at_zero, at_plus, bytes_fit, length_bytes}

-- a row for the k bytes t: the remainder of their polynomial times x^16
pub Row : ℕ → ℕ → ℕ → Type 0
Row k t row = (i : ℕ) → i < 16 → value (bytes_of 16 row) (power 2 i) ≡ times (value (bytes_of k t) (power 2 i)) (power (power 2 i) 16)

sixteen : (j k r d row x : ℕ) → j + k ≡ 16
    → value (bytes_of 16 row) x ≡ times (value (bytes_of k (plus (r / 256 ^ j) d)) x) (power x 16)
    → value (bytes_of 16 (plus (r * 256 ^ k % 256 ^ 16) row)) x
    ≡ plus (times (value (bytes_of 16 r) x) (power x k)) (times (value (bytes_of k d) x) (power x 16))
sixteen j k r d row x e =
    subst
    (λ (n : ℕ). value (bytes_of n row) x ≡ times (value (bytes_of k (plus (r / 256 ^ j) d)) x) (power x n)
    → value (bytes_of n (plus (r * 256 ^ k % 256 ^ n) row)) x
    ≡ plus (times (value (bytes_of n r) x) (power x k)) (times (value (bytes_of k d) x) (power x n)))
    e (step j k r d row x)

pub fed_bytes : (j k r d row : ℕ) (w : List ℕ) → j + k ≡ 16 → Bytes w → (v : List ℕ) → Bytes v → length v ≡ k → ((x : ℕ) → value (bytes_of k d) x ≡ value v x)
    → row < 2 ^ 128 → Row k (plus (r / 256 ^ j) d) row → Remainder (shifted 16 w) r
    → Remainder (shifted 16 (w ++ v)) (plus (r * 256 ^ k % 2 ^ 128) row)
unfolding Row
fed_bytes j k r d row w e f v g l is h rule p = record {
  fits = rw (plus_xor (r * 256 ^ k % 2 ^ 128) row) (xor_lt 128 (r * 256 ^ k % 2 ^ 128) row (omega arith) h);
  same = λ i b.
      let x = power 2 i in
      sixteen j k r d row x e (rule i b)
      ∙ rw (p.same i b, is x, value_shifted 16 w x f, value_shifted 16 (w ++ v) x (bytes_append w v f g), value_append w v x f, l)
      (simp ring);
}

-- one byte, with its row
pub fed_byte : (r b row : ℕ) (w : List ℕ) → r < 2 ^ 128 → b < 256 → Bytes w
    → Remainder (shifted 16 (bit_xor (r / 2 ^ 120) b ∷ [])) row → Remainder (shifted 16 w) r
    → Remainder (shifted 16 (w ++ (b ∷ []))) (bit_xor (r * 2 ^ 8 % 2 ^ 128) row)
unfolding Row
fed_byte r b row w hr hb f rule p =
    let t = bit_xor (r / 2 ^ 120) b in
    let ht : t < 256 = xor_lt 8 (r / 2 ^ 120) b (omega arith) hb in
    let is : plus (r / 256 ^ 15) b ≡ t = plus_xor (r / 2 ^ 120) b in
    subst (λ (n : ℕ). Remainder (shifted 16 (w ++ (b ∷ []))) n) (plus_xor (r * 2 ^ 8 % 2 ^ 128) row)
    (fed_bytes 15 1 r b row w refl f (b ∷ []) (single b hb) refl (λ x. at_byte b x hb ∙ sym (one_byte b x)) rule.fits
    (λ i h. rule.same i h ∙ value_shifted 16 (t ∷ []) (power 2 i) (single t ht)
    ∙ rw (is, at_byte t (power 2 i) ht, one_byte t (power 2 i)) refl)
    p)

-- the register is empty at first
pub empty : Remainder (shifted 16 []) 0
unfolding shifted
empty = record { fits = omega arith; same = λ j h. at_zero 16 (power 2 j) ∙ sym (value_zeros 16 (power 2 j)) }

-- eight bytes, with their row
pub fed_block : (r d row : ℕ) (w : List ℕ) → Bytes w
    → Remainder (shifted 16 (bytes_of 8 (bit_xor (r / 2 ^ 64) d))) row → Remainder (shifted 16 w) r
    → Remainder (shifted 16 (w ++ bytes_of 8 d)) (bit_xor (r * 2 ^ 64 % 2 ^ 128) row)
unfolding Row
fed_block r d row w f rule p =
    let t = bit_xor (r / 2 ^ 64) d in
    let is : plus (r / 256 ^ 8) d ≡ t = plus_xor (r / 2 ^ 64) d in
    subst (λ (n : ℕ). Remainder (shifted 16 (w ++ bytes_of 8 d)) n) (plus_xor (r * 2 ^ 64 % 2 ^ 128) row)
    (fed_bytes 8 8 r d row w refl f (bytes_of 8 d) (bytes_fit 8 d) (length_bytes 8 d) (λ x. refl) rule.fits
    (λ i h. rule.same i h ∙ value_shifted 16 (bytes_of 8 t) (power 2 i) (bytes_fit 8 t) ∙ rw is refl)
    p)

-- the rows of the k low bytes of a number, and that of the next
pub one_more_row : (k n all row : ℕ) → Remainder (shifted 16 (bytes_of k n)) all
    → Remainder (shifted (16 + k) (n / 256 ^ k % 256 ∷ [])) row
    → Remainder (shifted 16 (bytes_of (suc k) n)) (bit_xor all row)
unfolding bytes_of
one_more_row k n all row p q =
    let t = n / 256 ^ k % 256 in
    let rest = bytes_of k n in
    let ft = single t (omega arith) in
    record {
      fits = xor_lt 128 all row p.fits q.fits;
      same = λ j h.
          let x = power 2 j in
          ap (λ (m : ℕ). value (bytes_of 16 m) x) (sym (plus_xor all row)) ∙ at_plus 16 all row x
          ∙ rw (
            p.same j h,
            q.same j h,
            value_shifted 16 rest x (bytes_fit k n),
            value_shifted (16 + k) (t ∷ []) x ft,
            value_shifted 16 (t ∷ rest) x (bytes_append (t ∷ []) rest ft (bytes_fit k n)),
            value_append (t ∷ []) rest x ft,
            length_bytes k n,
            one_byte t x,
            power_add x 16 k,
          )
          (simp ring);
    }
