-- A buffer of words in their parts, interleaved and with its heads, is a super-frame. Assumes nothing.
use Rattle.std.proofs.Common.{◌≡◌, ℕ, ◌+◌, ◌*◌, ◌/◌, ◌%◌, ◌<◌, ◌≤◌, List, length, get_or, ap, ◌∙◌, mul-le-mul_right, arith}
use Rattle.frame_layout.specs.Layout.{frame_size, super_size, head_byte, SuperFrame}
use Rattle.frame_layout.proofs.Places.{sent, dispersed_is}
use Rattle.frame_layout.proofs.Wholes.{super_frame_from}
use Rattle.super_frame.specs.Parts.{part, SameSlot, InterleavedSlot, Staged}

-- every word has a number below 8 times the slots
pub number_below : (slots frame slot : ℕ) → frame < 8 → slot < slots → frame * slots + slot < 8 * slots
number_below slots frame slot hf hs =
    let le : frame ≤ 7 = omega arith in
    omega (arith, mul-le-mul_right slots le)

module _
    (slots : ℕ) (tmcc : List ℕ) (words : ℕ → ℕ → List ℕ) (b0 b1 b2 : List ℕ) (staged : Staged slots words (8 * slots) b0)
    (interleaved : (slot : ℕ) → slot < slots → InterleavedSlot slots b0 b1 slot)
    (heads : (frame i : ℕ) → frame < 8 → i < 12 → get_or b2 (frame * frame_size slots + i) 0 ≡ head_byte tmcc (frame + 1) i)
    (kept : (slot : ℕ) → slot < slots → SameSlot slots b1 b2 slot)
  where
    bodies :
        (g s c : ℕ) → g < 8 → s < slots → c < 203 →
        get_or b2 (g * frame_size slots + (12 + 203 * s + c)) 0 ≡ sent slots words ((203 * g + c) % 8) s ((203 * g + c) / 8)
    bodies g s c hg hs hc =
        let k = 203 * g + c in
        let p : g * frame_size slots + (12 + 203 * s + c) ≡ part slots g s + c = omega arith in
        ap (λ (x : ℕ). get_or b2 x 0) p
        ∙ (kept s hs g c hg hc
        ∙ (interleaved s hs g c hg hc
        ∙ (staged (k % 8) s (k / 8) (omega arith) hs (number_below slots (k % 8) s (omega arith) hs) (omega arith) ∙ dispersed_is slots words (k % 8) s (k / 8))))

    pub finished : length b2 ≡ super_size slots → SuperFrame slots tmcc words b2
    finished size = super_frame_from slots tmcc words b2 heads bodies size
