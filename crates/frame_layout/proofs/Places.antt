-- The bytes of a super-frame by frame and place in the frame, both counted from 0. Assumes nothing.
use Rattle.std.proofs.Common.{◌≡◌, ℕ, ◌+◌, ◌-◌, ◌*◌, ◌/◌, ◌%◌, ◌<◌, ◌≤◌, false, ltb, List, get_or, ◌∙◌, mul-le-mul_right, add-sub_cancel, arith}
use lib.Bits.{bit_xor}
use Rattle.std.proofs.lemmas.Nat.{div-mul-add, mod-mul-add}
use Rattle.std.proofs.lemmas.Bool.Decides.{nat_tests}
use Rattle.dispersal.specs.Stages.{sequence}
use Rattle.frame_layout.specs.Layout.{frame_size, super_size, head_byte, dispersed, slot_byte, frame_byte, byte_at}

-- a place of a frame, in its super-frame
pub within : (slots g r : ℕ) → g < 8 → r < frame_size slots → g * frame_size slots + r < super_size slots
within slots g r hg hr = let le : g ≤ 7 = omega arith in omega (arith, mul-le-mul_right (frame_size slots) le)

-- the byte c + 2 of a word, with the sequence added
abbrev pub sent : ℕ → (ℕ → ℕ → List ℕ) → ℕ → ℕ → ℕ → ℕ
sent slots words g s c = bit_xor (get_or (words (g + 1) (s + 1)) (c + 1) 0) (sequence ((g * slots + s) * 204 + c))

module _ (slots : ℕ) (words : ℕ → ℕ → List ℕ) where
  pub dispersed_is : (g s c : ℕ) → dispersed slots words (g + 1) (s + 1) (c + 2) ≡ sent slots words g s c
  unfolding dispersed
  dispersed_is g s c =
      let byte : c + 2 - 1 ≡ c + 1 = omega arith in
      rw (add-sub_cancel g 1, add-sub_cancel s 1, add-sub_cancel c 2, byte)

  pub slot_byte_is :
      (g s c : ℕ) → slot_byte slots words (g + 1) (s + 1) c ≡ sent slots words ((203 * g + c) % 8) s ((203 * g + c) / 8)
  unfolding slot_byte
  slot_byte_is g s c =
      let two : (203 * g + c) / 8 + 1 + 1 ≡ (203 * g + c) / 8 + 2 = omega arith in
      rw (add-sub_cancel g 1, two, dispersed_is ((203 * g + c) % 8) s ((203 * g + c) / 8))

module _ (slots : ℕ) (tmcc : List ℕ) (words : ℕ → ℕ → List ℕ) where
  at_frame : (g r : ℕ) → r < frame_size slots → byte_at slots tmcc words (g * frame_size slots + r) ≡ frame_byte slots tmcc words (g + 1) r
  unfolding byte_at
  at_frame g r h = rw (div-mul-add g (frame_size slots) r h, mod-mul-add g (frame_size slots) r h)

  pub at_head : (g i : ℕ) → i < 12 → byte_at slots tmcc words (g * frame_size slots + i) ≡ head_byte tmcc (g + 1) i
  unfolding frame_byte
  at_head g i h = at_frame g i (omega arith) ∙ grind (arith, nat_tests)

  pub at_slot :
      (g s c : ℕ) → s < slots → c < 203 →
      byte_at slots tmcc words (g * frame_size slots + (12 + 203 * s + c)) ≡ sent slots words ((203 * g + c) % 8) s ((203 * g + c) / 8)
  unfolding frame_byte
  at_slot g s c hs hc =
      let slot : (12 + 203 * s + c - 12) / 203 ≡ s = omega arith in
      let place : (12 + 203 * s + c - 12) % 203 ≡ c = omega arith in
      let body : ltb (12 + 203 * s + c) 12 ≡ false = grind (arith, nat_tests) in
      at_frame g (12 + 203 * s + c) (omega arith) ∙ rw (body, slot, place) (slot_byte_is slots words g s c)
