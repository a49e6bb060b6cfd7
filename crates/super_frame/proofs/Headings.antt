-- The head of a frame, made of three pieces and put in its place. Assumes nothing.
use Rattle.std.proofs.Common.{◌≡◌, ℕ, ◌+◌, ◌-◌, ◌*◌, ◌/◌, ◌%◌, ◌<◌, ◌≤◌, List, [], ◌∷◌, length, get_or, sym, ap, ◌∙◌, subst, ⊎_elim, arith}
use borrow.Rule.Slice.PartMut.{put_mid}
use lib.Bits.{bit_xor}
use Rattle.std.proofs.lemmas.Bool.{cases_eq, cases_lt}
use Rattle.dispersal.specs.Stages.{sequence, added}
use Rattle.dispersal.proofs.Added.{length_added, get_or_added}
use Rattle.frame_layout.specs.Layout.{W1, own, frame_size, head_byte}
use Rattle.frame_layout.proofs.Heads.{sync_bytes, head_first, head_tmcc, head_second}
use Rattle.super_frame.specs.Parts.{part, Put, Headed, SameSlot}
use Rattle.super_frame.proofs.Apart.{frames_apart}
use Rattle.super_frame.proofs.Overwritten.{put_below, put_in, put_above}

abbrev both : ℕ → List ℕ
both word = word / 256 ∷ word % 256 ∷ []

module _
    (frame word : ℕ) (tmcc piece b0 b1 b2 b3 : List ℕ) (ew : word ≡ own (frame + 1)) (eight : length piece ≡ 8)
    (from : (i : ℕ) → i < 8 → get_or piece i 0 ≡ get_or tmcc (8 * frame + i) 0) (first : Put (both W1) b0 0 b1)
    (second : Put (added (12 * frame) piece) b1 2 b2) (third : Put (both word) b2 10 b3)
  where
    long : length (added (12 * frame) piece) ≡ 8
    long = length_added (12 * frame) piece ∙ eight

    at_first : (i : ℕ) → i < 2 → get_or b3 i 0 ≡ head_byte tmcc (frame + 1) i
    at_first i h =
        third.below i (omega arith)
        ∙ (second.below i (omega arith)
        ∙ (subst (λ (k : ℕ). get_or b1 k 0 ≡ get_or (both W1) i 0) (omega arith) (first.here i h) ∙ (sync_bytes W1 i h ∙ sym (head_first tmcc (frame + 1) i h))))

    at_tmcc : (i : ℕ) → i < 8 → get_or b3 (2 + i) 0 ≡ head_byte tmcc (frame + 1) (2 + i)
    at_tmcc i h =
        third.below (2 + i) (omega arith)
        ∙ (second.here i (omega (arith, long))
        ∙ (get_or_added (12 * frame) piece i (omega arith)
        ∙ (ap (λ (x : ℕ). bit_xor x (sequence (12 * frame + i))) (from i h) ∙ sym (head_tmcc tmcc frame i h))))

    at_second : (i : ℕ) → i < 2 → get_or b3 (10 + i) 0 ≡ head_byte tmcc (frame + 1) (10 + i)
    at_second i h =
        third.here i h
        ∙ (ap (λ (w : ℕ). get_or (both w) i 0) ew ∙ (sync_bytes (own (frame + 1)) i h ∙ sym (head_second tmcc (frame + 1) i h)))

    -- the three pieces are the head
    pub whole : (i : ℕ) → i < 12 → get_or b3 i 0 ≡ head_byte tmcc (frame + 1) i
    whole i h =
        ⊎_elim (λ low. at_first i low)
        (λ past.
        ⊎_elim
        (λ middle.
        let e : 2 + (i - 2) ≡ i = omega (arith, past) in
        subst (λ (k : ℕ). get_or b3 k 0 ≡ head_byte tmcc (frame + 1) k) e (at_tmcc (i - 2) (omega (arith, past, middle))))
        (λ high.
        let e : 10 + (i - 10) ≡ i = omega (arith, high) in
        subst (λ (k : ℕ). get_or b3 k 0 ≡ head_byte tmcc (frame + 1) k) e (at_second (i - 10) (omega (arith, high))))
        (cases_lt i 10))
        (cases_lt i 2)

-- a head that is written where its frame begins
pub headed :
    (slots frame start k : ℕ) (tmcc before head : List ℕ) → start ≡ frame * frame_size slots → k ≡ 12 → start + 12 ≤ length before → length head ≡ 12 →
    ((i : ℕ) → i < 12 → get_or head i 0 ≡ head_byte tmcc (frame + 1) i) → Headed slots tmcc frame before (put_mid start k before head)
headed slots frame start k tmcc before head es ek room size is =
    let fits : start + k ≤ length before = omega arith in
    let long : length head ≡ k = omega arith in
    record {
      head = λ i h.
          ap (λ (j : ℕ). get_or (put_mid start k before head) (j + i) 0) (sym es)
          ∙ (put_in start k before head 0 fits long i (omega arith) ∙ is i h);
      below = λ place h. put_below start k before head 0 fits long place (omega (arith, es));
      above = λ place h. put_above start k before head 0 fits long place (omega (arith, es));
    }

module _ (slots n : ℕ) (tmcc before after : List ℕ) (here : Headed slots tmcc n before after) where
  -- the heads before it stay
  pub heads_more :
      ((frame i : ℕ) → frame < n → i < 12 → get_or before (frame * frame_size slots + i) 0 ≡ head_byte tmcc (frame + 1) i) →
      (frame i : ℕ) → frame < n + 1 → i < 12 → get_or after (frame * frame_size slots + i) 0 ≡ head_byte tmcc (frame + 1) i
  heads_more heads frame i hf hi =
      ⊎_elim
      (λ e.
      subst (λ (f : ℕ). get_or after (f * frame_size slots + i) 0 ≡ head_byte tmcc (f + 1) i) (sym e) (here.head i hi))
      (λ ne.
      here.below (frame * frame_size slots + i) (omega (arith, frames_apart slots frame n (omega (arith, ne)))) ∙ heads frame i (omega (arith, ne)) hi)
      (cases_eq frame n)

  -- and so do the slots
  pub slots_left : (slot : ℕ) → slot < slots → SameSlot slots before after slot
  slots_left slot hs frame c hf hc =
      ⊎_elim
      (λ lower. here.below (part slots frame slot + c) (omega (arith, frames_apart slots frame n lower)))
      (λ le.
      ⊎_elim
      (λ e.
      let same : frame * frame_size slots ≡ n * frame_size slots = ap (λ (f : ℕ). f * frame_size slots) e in
      here.above (part slots frame slot + c) (omega (arith, same)))
      (λ ne. here.above (part slots frame slot + c) (omega (arith, frames_apart slots n frame (omega (arith, le, ne)))))
      (cases_eq frame n))
      (cases_lt frame n)
