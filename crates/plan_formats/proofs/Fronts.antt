-- The number in the first bits, after a write and between two strings of bytes. Assumes nothing.
use Rattle.std.proofs.Common.{◌≡◌, ℕ, zero, suc, ◌+◌, ◌-◌, ◌*◌, ◌/◌, ◌%◌, ◌^◌, ◌<◌, ◌≢◌, List, length, get_or, set, sym, refl, ap, ◌∙◌, ⊎_elim, arith}
use Rattle.std.proofs.lemmas.List.{get_or-set_same, get_or-set_other}
use Rattle.std.proofs.lemmas.Bool.{cases_eq}
use Rattle.plan_formats.specs.Bits.{bit, front}
use Rattle.plan_formats.proofs.Steps.{front_more}

-- equal bits make equal numbers
pub front_same :
    (a b : List ℕ) (n : ℕ) → ((place : ℕ) → place < n → bit a place ≡ bit b place) → front a n ≡ front b n
unfolding front
front_same a b zero h = refl
front_same a b (suc n) h =
    let rest = front_same a b n (λ place l. h place (omega (arith, l))) in
    let last = h n (omega arith) in
    omega (arith, rest, last)

module _ (bytes : List ℕ) (place x v : ℕ) (within : place < length bytes * 8)
    (here : x / 2 ^ (7 - place % 8) % 2 ≡ v)
    (before : (i : ℕ) → i < place % 8 → x / 2 ^ (7 - i) % 2 ≡ get_or bytes (place / 8) 0 / 2 ^ (7 - i) % 2) where
  earlier_bit : (q : ℕ) → q < place → bit (set bytes (place / 8) x) q ≡ bit bytes q
  earlier_bit q h =
      ⊎_elim
      (λ (same : q / 8 ≡ place / 8).
      let inside : place / 8 < length bytes = omega (arith, within) in
      let low : q % 8 < place % 8 = omega (arith, same, h) in
      ap (λ (k : ℕ). get_or (set bytes (place / 8) x) k 0 / 2 ^ (7 - q % 8) % 2) same
      ∙ ap (λ (y : ℕ). y / 2 ^ (7 - q % 8) % 2) (get_or-set_same bytes (place / 8) x 0 inside)
      ∙ before (q % 8) low
      ∙ ap (λ (k : ℕ). get_or bytes k 0 / 2 ^ (7 - q % 8) % 2) (sym same))
      (λ (other : q / 8 ≢ place / 8).
      ap (λ (y : ℕ). y / 2 ^ (7 - q % 8) % 2) (get_or-set_other bytes (place / 8) (q / 8) x 0 other))
      (cases_eq (q / 8) (place / 8))

  own_bit : bit (set bytes (place / 8) x) place ≡ v
  own_bit =
      let inside : place / 8 < length bytes = omega (arith, within) in
      ap (λ (y : ℕ). y / 2 ^ (7 - place % 8) % 2) (get_or-set_same bytes (place / 8) x 0 inside) ∙ here

  -- the bits up to a place once the bit there is written
  pub front_set : front (set bytes (place / 8) x) (place + 1) ≡ front bytes place * 2 + v
  front_set =
      let rest = front_same (set bytes (place / 8) x) bytes place earlier_bit in
      front_more (set bytes (place / 8) x) place ∙ omega (arith, rest, own_bit)
