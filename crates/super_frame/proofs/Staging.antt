-- One more word put into its part. Assumes nothing.
use Rattle.std.proofs.Common.{◌≡◌, ℕ, ◌+◌, ◌*◌, ◌/◌, ◌%◌, ◌<◌, List, length, get_or, drop, sym, refl, ap, ◌∙◌, subst, ⊎_elim, arith}
use Rattle.std.proofs.lemmas.Nat.{div-mul-add, mod-mul-add}
use Rattle.std.proofs.lemmas.List.{length-drop, get_or-drop}
use Rattle.std.proofs.lemmas.Bool.{cases_eq}
use Rattle.dispersal.specs.Stages.{added}
use Rattle.dispersal.proofs.Added.{length_added, get_or_added}
use Rattle.frame_layout.specs.Layout.{dispersed}
use Rattle.frame_layout.proofs.Places.{dispersed_is}
use Rattle.super_frame.specs.Parts.{part, Copied, Put, Staged}
use Rattle.super_frame.proofs.Rows.{left_part}

-- what is put at a place is copied from its own beginning on
pub put_copied :
    (bytes before after : List ℕ) (to : ℕ) → length bytes ≡ 203 → Put bytes before to after → Copied 0 bytes 0 before to after
put_copied bytes before after to long put =
    record {
      size = put.size;
      here = λ c h. let z : c ≡ 0 + c = omega arith in put.here c (omega arith) ∙ ap (λ (k : ℕ). get_or bytes k 0) z;
      below = put.below;
      above = λ place h. put.above place (omega arith);
    }

-- the number of a word gives its frame and its slot
pub same_number :
    (slots f s g t : ℕ) → s < slots → t < slots → f * slots + s ≡ g * slots + t → (f ≡ g) × (s ≡ t)
same_number slots f s g t hs ht e = (
  sym (div-mul-add f slots s hs) ∙ (ap (λ (x : ℕ). x / slots) e ∙ div-mul-add g slots t ht),
  sym (mod-mul-add f slots s hs) ∙ (ap (λ (x : ℕ). x % slots) e ∙ mod-mul-add g slots t ht),
)

module _
    (slots frame slot n : ℕ) (words : ℕ → ℕ → List ℕ) (word before after : List ℕ) (hs : slot < slots) (size : length word ≡ 204)
    (own : words (frame + 1) (slot + 1) ≡ word) (number : n ≡ (frame * slots + slot) * 204)
    (put : Put (added n (drop 1 word)) before (part slots frame slot) after)
  where
    long : length (added n (drop 1 word)) ≡ 203
    long = length_added n (drop 1 word) ∙ (length-drop 1 word ∙ omega arith)

    here : (c : ℕ) → c < 203 → get_or after (part slots frame slot + c) 0 ≡ dispersed slots words (frame + 1) (slot + 1) (c + 2)
    here c h =
        let one : 1 + c ≡ c + 1 = omega arith in
        put.here c (omega (arith, long))
        ∙ (get_or_added n (drop 1 word) c (omega (arith, length-drop 1 word))
        ∙ (rw (get_or-drop 1 word c 0, one, ← own, number) (sym (dispersed_is slots words frame slot c))))

    pub staged_more : Staged slots words (frame * slots + slot) before → Staged slots words (frame * slots + slot + 1) after
    staged_more staged f s c hf h less hc =
        ⊎_elim
        (λ e.
        let same = same_number slots f s frame slot h hs e in
        subst (λ (g : ℕ). get_or after (part slots g s + c) 0 ≡ dispersed slots words (g + 1) (s + 1) (c + 2)) (sym same.0)
        (subst (λ (t : ℕ). get_or after (part slots frame t + c) 0 ≡ dispersed slots words (frame + 1) (t + 1) (c + 2)) (sym same.1) (here c hc)))
        (λ ne.
        left_part 0 slots slot frame 0 (part slots frame slot) (added n (drop 1 word)) before after hs refl
        (put_copied (added n (drop 1 word)) before after (part slots frame slot) long put) f s c h hc
        (λ ef es. ne (ap (λ (g : ℕ). g * slots + s) ef ∙ ap (λ (t : ℕ). frame * slots + t) es))
        ∙ staged f s c hf h (omega (arith, ne)) hc)
        (cases_eq (f * slots + s) (frame * slots + slot))
