-- A super-frame from its heads and its slots. Assumes nothing.
use Rattle.std.proofs.Common.{◌≡◌, ℕ, ◌+◌, ◌-◌, ◌*◌, ◌/◌, ◌%◌, ◌<◌, List, length, get_or, sym, ◌∙◌, subst, ⊎_elim, arith}
use Rattle.std.proofs.lemmas.Nat.{div_below, mod_below, div-add-mod'}
use Rattle.std.proofs.lemmas.Bool.{cases_lt}
use Rattle.frame_layout.specs.Layout.{frame_size, super_size, head_byte, byte_at, SuperFrame}
use Rattle.frame_layout.proofs.Places.{sent, at_head, at_slot}

module _
    (slots : ℕ) (tmcc : List ℕ) (words : ℕ → ℕ → List ℕ) (stream : List ℕ)
    (heads : (g i : ℕ) → g < 8 → i < 12 → get_or stream (g * frame_size slots + i) 0 ≡ head_byte tmcc (g + 1) i)
    (bodies :
    (g s c : ℕ) → g < 8 → s < slots → c < 203 →
    get_or stream (g * frame_size slots + (12 + 203 * s + c)) 0 ≡ sent slots words ((203 * g + c) % 8) s ((203 * g + c) / 8))
  where
    in_frame : (g r : ℕ) → g < 8 → r < frame_size slots → get_or stream (g * frame_size slots + r) 0 ≡ byte_at slots tmcc words (g * frame_size slots + r)
    in_frame g r hg hr =
        ⊎_elim (λ head. heads g r hg head ∙ sym (at_head slots tmcc words g r head))
        (λ body.
        let e : 12 + 203 * ((r - 12) / 203) + (r - 12) % 203 ≡ r = omega (arith, body) in
        let s : (r - 12) / 203 < slots = omega (arith, body) in
        let c : (r - 12) % 203 < 203 = omega arith in
        subst (λ (k : ℕ). get_or stream (g * frame_size slots + k) 0 ≡ byte_at slots tmcc words (g * frame_size slots + k)) e
        (bodies g ((r - 12) / 203) ((r - 12) % 203) hg s c ∙ sym (at_slot slots tmcc words g ((r - 12) / 203) ((r - 12) % 203) s c)))
        (cases_lt r 12)

    pub super_frame_from : length stream ≡ super_size slots → SuperFrame slots tmcc words stream
    super_frame_from size =
        record {
          size = size;
          bytes = λ place h.
              let F = frame_size slots in
              let some : 0 < F = omega arith in
              subst (λ (k : ℕ). get_or stream k 0 ≡ byte_at slots tmcc words k) (div-add-mod' place F)
              (in_frame (place / F) (place % F) (div_below place F 8 some h) (mod_below place F some));
        }
