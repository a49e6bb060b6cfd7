-- How the writing of a super-frame comes from slot to slot and from frame to frame. Assumes nothing.
use Rattle.std.proofs.Common.{◌≡◌, ℕ, ◌+◌, ◌-◌, ◌*◌, ◌<◌, ◌≤◌, List, [], ◌∷◌, ◌++◌, length, get_or, sym, refl, ap, ◌∙◌, subst, inl, inr, add-zero, mul-le-mul_right, add-mul, one-mul, add-sub_cancel, arith, length-append}
use Rattle.std.proofs.lemmas.List.{get_or_append_left, get_or-append_right}
use Rattle.std.proofs.lemmas.Bool.{cases_eq}
use Rattle.slot_plan.specs.declared.fields.Fields.{Fields}
use Rattle.dispersal.specs.Stages.{At}
use Rattle.frame_layout.specs.Layout.{dispersed}
use Rattle.super_frame.specs.Carried.{packet_at, AllCarried}
use Rattle.super_frame.specs.Parts.{Staged}
use Rattle.super_frame.proofs.Staging.{same_number}
use Rattle.super_frame.specs.Progress.{word_at, CarriesOnly, Begun}

-- nothing is done yet
pub begun_none : (p : Fields) (packets : List ℕ) (window : ℕ) (out : List ℕ) → At window 0 → Begun p packets 0 0 window out
begun_none p packets window out at =
    let none : 0 * p.slots + 0 ≡ 0 = omega arith in
    record {
      words = [];
      count = sym none;
      held = λ frame slot within before. absurd (omega (arith, before, none));
      staged = λ frame slot c hf hs before hc. absurd (omega (arith, before, none));
      sequence = subst (λ (n : ℕ). At window n) (omega arith) at;
    }

-- the words so far stay where they were when another comes
module _ (slots : ℕ) (words : List (List ℕ)) (w : List ℕ) where
  word_kept : (g t : ℕ) → g * slots + t < length words → word_at slots (words ++ (w ∷ [])) (g + 1) (t + 1) ≡ word_at slots words (g + 1) (t + 1)
  word_kept g t h = rw (add-sub_cancel g 1, add-sub_cancel t 1) (get_or_append_left words (w ∷ []) [] (g * slots + t) h)

  word_last : (g t : ℕ) → length words ≡ g * slots + t → get_or (words ++ (w ∷ [])) (g * slots + t) [] ≡ w
  word_last g t h =
      let first : g * slots + t - length words ≡ 0 = omega (arith, h) in
      get_or-append_right words (w ∷ []) (length words) (g * slots + t) [] refl (omega (arith, h))
      ∙ ap (λ (i : ℕ). get_or (w ∷ []) i []) first

  staged_kept : (n : ℕ) (out : List ℕ) → length words ≡ n → Staged slots (word_at slots words) n out → Staged slots (word_at slots (words ++ (w ∷ []))) n out
  unfolding dispersed
  staged_kept n out long old g t c hg ht before hc =
      old g t c hg ht before hc ∙ rw (word_kept g t (omega (arith, long, before)))

-- a frame and a slot are known by the number of slots before
pub same_frame : (n f s g t : ℕ) → s < n → t < n → g * n + t ≡ f * n + s → (g ≡ f) × (t ≡ s)
same_frame n f s g t hs ht e = same_number n g t f s ht hs e

-- the word of the next slot is put into its part
pub begun_more :
    (p : Fields) (packets : List ℕ) (f s window : ℕ) (out w : List ℕ) (window' : ℕ) (out' : List ℕ) → Begun p packets f s window out → s < p.slots →
    CarriesOnly p (s + 1) (packet_at p.slots packets (f + 1) (s + 1)) w → ((n : ℕ) → At window n → At window' (n + 204)) →
    ((words : ℕ → ℕ → List ℕ) → words (f + 1) (s + 1) ≡ w → At window ((f * p.slots + s) * 204) →
    Staged p.slots words (f * p.slots + s) out → Staged p.slots words (f * p.slots + s + 1) out') →
    Begun p packets f (s + 1) window' out'
begun_more p packets f s window out w window' out' b within here moves puts =
    let words = b.words ++ (w ∷ []) in
    let one : f * p.slots + s + 1 ≡ f * p.slots + (s + 1) = omega arith in
    record {
      words = words;
      count = length-append b.words (w ∷ []) ∙ omega (arith, b.count);
      held = λ g t ht before.
          elim (cases_eq (g * p.slots + t) (f * p.slots + s)) [
            | inl same ↦
                let at = same_frame p.slots f s g t within ht same in
                subst (λ (v : List ℕ). CarriesOnly p (t + 1) (packet_at p.slots packets (g + 1) (t + 1)) v)
                (sym (word_last p.slots b.words w g t (b.count ∙ sym same)))
                (subst (λ (x : ℕ). CarriesOnly p (t + 1) (packet_at p.slots packets (x + 1) (t + 1)) w) (sym at.0)
                (subst (λ (x : ℕ). CarriesOnly p (x + 1) (packet_at p.slots packets (f + 1) (x + 1)) w) (sym at.1) here))
            | inr apart ↦
                let less : g * p.slots + t < f * p.slots + s = omega (arith, before, apart) in
                subst (λ (v : List ℕ). CarriesOnly p (t + 1) (packet_at p.slots packets (g + 1) (t + 1)) v)
                (sym (get_or_append_left b.words (w ∷ []) [] (g * p.slots + t) (omega (arith, less, b.count))))
                (b.held g t ht less)
          ];
      staged = subst (λ (n : ℕ). Staged p.slots (word_at p.slots words) n out') one
          (puts (word_at p.slots words)
          (rw (add-sub_cancel f 1, add-sub_cancel s 1) (word_last p.slots b.words w f s b.count))
          b.sequence
          (staged_kept p.slots b.words w (f * p.slots + s) out b.count b.staged));
      sequence = subst (λ (n : ℕ). At window' n) (omega arith) (moves ((f * p.slots + s) * 204) b.sequence);
    }

-- a whole frame is done
pub begun_frame :
    (p : Fields) (packets : List ℕ) (f window : ℕ) (out : List ℕ) → Begun p packets f p.slots window out → Begun p packets (f + 1) 0 window out
begun_frame p packets f window out b =
    let e : f * p.slots + p.slots ≡ (f + 1) * p.slots + 0 = rw (add-mul, one-mul, add-zero) in
    record {
      words = b.words;
      count = b.count ∙ e;
      held = λ g t ht before. b.held g t ht (omega (arith, before, e));
      staged = λ g t c hg ht before hc. b.staged g t c hg ht (omega (arith, before, e)) hc;
      sequence = subst (λ (n : ℕ). At window (n * 204)) e b.sequence;
    }

-- all frames are done
module _ (p : Fields) (packets : List ℕ) (window : ℕ) (out : List ℕ) (b : Begun p packets 8 0 window out) where
  pub all_words : ℕ → ℕ → List ℕ
  all_words = word_at p.slots b.words

  held : (f s : ℕ) → 1 ≤ f → f ≤ 8 → 1 ≤ s → s ≤ p.slots → CarriesOnly p s (packet_at p.slots packets f s) (all_words f s)
  unfolding all_words
  held f s f1 f8 s1 sn =
      let frame : f - 1 + 1 ≡ f = omega arith in
      let slot : s - 1 + 1 ≡ s = omega arith in
      let le : f - 1 ≤ 7 = omega arith in
      let before : (f - 1) * p.slots + (s - 1) < 8 * p.slots + 0 = omega (arith, mul-le-mul_right p.slots le) in
      subst (λ (n : ℕ). CarriesOnly p n (packet_at p.slots packets f n) (word_at p.slots b.words f s)) slot
      (subst (λ (n : ℕ). CarriesOnly p (s - 1 + 1) (packet_at p.slots packets n (s - 1 + 1)) (word_at p.slots b.words f s)) frame
      (b.held (f - 1) (s - 1) (omega arith) before))

  pub all_held : AllCarried p packets all_words
  all_held f s f1 f8 s1 sn = (held f s f1 f8 s1 sn).carried

  pub all_staged : Staged p.slots all_words (8 * p.slots) out
  unfolding all_words
  all_staged = subst (λ (k : ℕ). Staged p.slots (word_at p.slots b.words) k out) (add-zero (8 * p.slots)) b.staged

  -- and no other words carry the packets
  pub each_staged : (words : ℕ → ℕ → List ℕ) → AllCarried p packets words → Staged p.slots words (8 * p.slots) out
  unfolding dispersed
  each_staged words carried g t c hg ht before hc =
      let same : words (g + 1) (t + 1) ≡ all_words (g + 1) (t + 1) =
      (held (g + 1) (t + 1) (omega arith) (omega arith) (omega arith) (omega arith)).only (words (g + 1) (t + 1))
      (carried (g + 1) (t + 1) (omega arith) (omega arith) (omega arith) (omega arith)) in
      all_staged g t c hg ht before hc ∙ rw (← same) refl
