-- The bytes of a frame's head, by its three parts. Assumes nothing.
use Rattle.std.proofs.Common.{◌≡◌, ℕ, ◌+◌, ◌-◌, ◌*◌, ◌/◌, ◌%◌, ◌<◌, true, false, ltb, List, [], ◌∷◌, get_or, sym, refl, ap, ◌∙◌, ⊎_elim, add-sub_cancel, arith}
use lib.Bits.{bit_xor}
use Rattle.std.proofs.lemmas.Bool.{cases_eq}
use Rattle.std.proofs.lemmas.Bool.Decides.{nat_tests}
use Rattle.dispersal.specs.Stages.{sequence}
use Rattle.frame_layout.specs.Layout.{W1, own, sync_byte, tmcc_byte, head_byte}

-- a sync word as a list of its two bytes
pub sync_bytes : (word i : ℕ) → i < 2 → get_or (word / 256 ∷ word % 256 ∷ []) i 0 ≡ sync_byte word i
sync_bytes word i h =
    ⊎_elim
    (λ e. ap (λ (j : ℕ). get_or (word / 256 ∷ word % 256 ∷ []) j 0) e ∙ ap (λ (j : ℕ). sync_byte word j) (sym e))
    (λ ne.
    let e : i ≡ 1 = omega (arith, ne) in
    ap (λ (j : ℕ). get_or (word / 256 ∷ word % 256 ∷ []) j 0) e ∙ ap (λ (j : ℕ). sync_byte word j) (sym e))
    (cases_eq i 0)

module _ (tmcc : List ℕ) where
  pub head_first : (f i : ℕ) → i < 2 → head_byte tmcc f i ≡ sync_byte W1 i
  unfolding head_byte
  head_first f i h = let first : ltb i 2 ≡ true = grind (arith, nat_tests) in rw first refl

  pub head_tmcc : (g i : ℕ) → i < 8 → head_byte tmcc (g + 1) (2 + i) ≡ bit_xor (get_or tmcc (8 * g + i) 0) (sequence (12 * g + i))
  unfolding head_byte tmcc_byte
  head_tmcc g i h =
      let past : ltb (2 + i) 2 ≡ false = grind (arith, nat_tests) in
      let within : ltb (2 + i) 10 ≡ true = grind (arith, nat_tests) in
      let at : 2 + i - 2 ≡ i = omega arith in
      rw (past, within, at, add-sub_cancel g 1) refl

  pub head_second : (f i : ℕ) → i < 2 → head_byte tmcc f (10 + i) ≡ sync_byte (own f) i
  unfolding head_byte
  head_second f i h =
      let past : ltb (10 + i) 2 ≡ false = grind (arith, nat_tests) in
      let beyond : ltb (10 + i) 10 ≡ false = grind (arith, nat_tests) in
      let at : 10 + i - 10 ≡ i = omega arith in
      rw (past, beyond, at) refl
