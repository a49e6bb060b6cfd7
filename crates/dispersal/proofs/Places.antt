-- From a place in the sequence to the next. Assumes nothing.
use Rattle.std.proofs.Common.{◌≡◌, ℕ, ◌+◌, ◌-◌, ◌*◌, ◌/◌, ◌%◌, ◌^◌, ◌<◌, ◌≤◌, refl, ap₂, ◌∙◌, mod-eq_of_lt, arith}
use lib.Bits.{bit_or, bit_xor}
use Rattle.std.proofs.lemmas.Nat.{one_shl, or_shifted}
use mathlib.Core.Logic.{∥∥₁_map}
use Rattle.dispersal.specs.Stages.{state, bits, sequence, At, Begins}
use Rattle.dispersal.proofs.Windows.{entering, entering_below, passed, passed_below, first_bits, moved_on}

-- the first fifteen bytes
abbrev pub first : ℕ
first = 0x03F6_0834_30B8_A393_C968_B773_B329_AA

pub at_start : At first 0
unfolding At bits state
at_start = refl

pub begins : Begins
unfolding sequence bits state
begins = (refl, refl, refl, refl)

-- the window after m bytes, as it is computed
abbrev pub stepped : ℕ → ℕ → ℕ
stepped m w =
    bit_or (w % (1 * 2 ^ (120 - 8 * m) % 2 ^ 128) * 2 ^ (8 * m) % 2 ^ 128)
    (bit_xor (w / 2 ^ (120 - 8 * m)) (w / 2 ^ (120 - 8 * m - 8) % (1 * 2 ^ (8 * m) % 2 ^ 128)))

module _ (m w : ℕ) (few : m ≤ 8) where
  whole : 8 * m + (112 - 8 * m + 8) ≡ 120
  whole = omega arith

  behind : 120 - 8 * m ≡ 112 - 8 * m + 8
  behind = omega arith

  pub at_bytes : (n : ℕ) → At w n → w / 2 ^ (120 - 8 * m) ≡ bits (8 * n) (8 * m)
  unfolding At
  at_bytes n e = rw behind (first_bits (8 * n) (8 * m) (112 - 8 * m) w whole (rw whole e))

  module _ (room : w < 2 ^ 120) where
    below : passed (8 * m) (112 - 8 * m) w < 2 ^ 120
    below =
        let full : 112 - 8 * m + 8 + 8 * m ≡ 120 = omega arith in
        rw full at (passed_below (8 * m) (112 - 8 * m) w (rw whole room))

    as_passed : stepped m w ≡ passed (8 * m) (112 - 8 * m) w
    as_passed =
        let k = 8 * m in
        let i = 112 - 8 * m in
        let next : i + 8 - 8 ≡ i = omega arith in
        let kept : w % 2 ^ (i + 8) * 2 ^ k < 2 ^ 128 = omega (arith, below) in
        rw (behind, next, one_shl (i + 8) 128 (omega arith), one_shl k 128 (omega arith), mod-eq_of_lt kept)
        (or_shifted (w % 2 ^ (i + 8)) k (entering k i w) (entering_below k i w (rw whole room)))

    pub stepped_below : stepped m w < 2 ^ 120
    stepped_below = rw as_passed below

    pub after_bytes : (n : ℕ) → At w n → At (stepped m w) (n + m)
    unfolding At
    after_bytes n e =
        let on : 8 * n + 8 * m ≡ 8 * (n + m) = omega arith in
        let full : 112 - 8 * m + 8 + 8 * m ≡ 120 = omega arith in
        as_passed ∙ moved_on (8 * n) (8 * m) (112 - 8 * m) w whole (rw whole e) ∙ ap₂ (λ (t k : ℕ). bits t k) on full

-- a window that moves on stays a window
pub reached_on : (w w' k : ℕ) → ((n : ℕ) → At w n → At w' (n + k)) → ∥ ((n : ℕ) × At w n) ∥₁ → ∥ ((n : ℕ) × At w' n) ∥₁
reached_on w w' k on r = ∥∥₁_map r (λ found. (found.0 + k, on found.0 found.1))
