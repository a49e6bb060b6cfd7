-- The sequence taken off the TMCC bytes of one more frame. Assumes nothing.
use Rattle.std.proofs.Common.{◌≡◌, ℕ, ◌+◌, ◌*◌, ◌<◌, List, length, get_or, sym, ap, ◌∙◌, subst, ⊎_elim, arith}
use lib.Bits.{bit_xor}
use Rattle.std.proofs.lemmas.Bool.{cases_eq}
use Rattle.dispersal.specs.Stages.{sequence, added}
use Rattle.dispersal.proofs.Added.{length_added, get_or_added}
use Rattle.frame_layout.specs.Layout.{frame_size}
use Rattle.super_frame.specs.Parts.{Put}
use Rattle.super_frame.specs.Reads.{TmccRead}

pub tmcc_more :
    (slots n to : ℕ) (stream piece tmcc after : List ℕ) → to ≡ 8 * n → length piece ≡ 8 →
    ((i : ℕ) → i < 8 → get_or piece i 0 ≡ get_or stream (n * frame_size slots + (2 + i)) 0) → Put (added (12 * n) piece) tmcc to after →
    TmccRead slots stream n tmcc → TmccRead slots stream (n + 1) after
tmcc_more slots n to stream piece tmcc after et eight from put earlier frame i hf hi =
    let long : length (added (12 * n) piece) ≡ 8 = length_added (12 * n) piece ∙ eight in
    ⊎_elim
    (λ e.
    subst (λ (f : ℕ). get_or after (8 * f + i) 0 ≡ bit_xor (get_or stream (f * frame_size slots + (2 + i)) 0) (sequence (12 * f + i))) (sym e)
    (ap (λ (k : ℕ). get_or after (k + i) 0) (sym et)
    ∙ (put.here i (omega (arith, long))
    ∙ (get_or_added (12 * n) piece i (omega arith) ∙ ap (λ (x : ℕ). bit_xor x (sequence (12 * n + i))) (from i hi)))))
    (λ ne. put.below (8 * frame + i) (omega (arith, ne, et)) ∙ earlier frame i (omega (arith, ne)) hi)
    (cases_eq frame n)
