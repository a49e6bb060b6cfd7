-- Bytes with an exact head are the super-frame of what is read from them. Assumes nothing.
use Rattle.std.proofs.Common.{◌≡◌, ℕ, zero, suc, ◌+◌, ◌-◌, ◌*◌, ◌/◌, ◌%◌, ◌<◌, ◌≤◌, Bool, true, false, cond, ◌&&◌, eqb, List, length, get_or, take, drop, sym, refl, ap, ◌∙◌, subst, ⊎_elim, add-sub_cancel, arith, eqb-true}
use lib.Bits.{bit_xor}
use Rattle.std.proofs.lemmas.List.{get_or-take, get_or-drop}
use Rattle.std.proofs.lemmas.Bool.{cases_eq, cases_lt}
use Rattle.dispersal.specs.Stages.{sequence}
use Rattle.frame_layout.specs.Layout.{frame_size, super_size, W1, own, sync_byte, head_byte, SuperFrame}
use Rattle.frame_layout.specs.Marks.{stands, marked, whole, whole_up_to, Exact}
use Rattle.frame_layout.proofs.Places.{sent}
use Rattle.frame_layout.proofs.Heads.{head_first, head_tmcc, head_second}
use Rattle.frame_layout.proofs.Wholes.{super_frame_from}
use Rattle.super_frame.specs.Parts.{part}
use Rattle.super_frame.specs.Reads.{words_size, word_place, sent_at, word_of, Read, ReadWhole}
use Rattle.super_frame.proofs.Backs.{cancel}

both : (a b : Bool) → (a && b) ≡ true → (a ≡ true) × (b ≡ true)
both true true h = (refl, refl)
both true false h = (refl, h)
both false b h = (h, let z : ◌≡◌ {A = ℕ} 0 1 = cc in absurd (omega (arith, z)))

-- where as many marks as frames are whole, each is
module _ (slots : ℕ) (stream : List ℕ) (place : ℕ) where
  one_more : (n : ℕ) → whole_up_to slots stream place n ≤ n → (b : Bool) → whole_up_to slots stream place n + cond b 1 0 ≤ suc n
  one_more n h true = omega (arith, h)
  one_more n h false = omega (arith, h)

  few : (n : ℕ) → whole_up_to slots stream place n ≤ n
  unfolding whole_up_to
  few zero = omega arith
  few (suc n) = one_more n (few n) (whole slots stream place (suc n))

  last : (n : ℕ) (b : Bool) → whole_up_to slots stream place n + cond b 1 0 ≡ suc n → (b ≡ true) × (whole_up_to slots stream place n ≡ n)
  last n true h = (refl, omega (arith, h))
  last n false h = absurd (omega (arith, h, few n))

  all_whole : (n : ℕ) → whole_up_to slots stream place n ≡ n → (f : ℕ) → f < n → whole slots stream place (f + 1) ≡ true
  unfolding whole_up_to
  all_whole zero h f lt = absurd (omega arith)
  all_whole (suc n) h f lt =
      let now-last = last n (whole slots stream place (suc n)) h in
      ⊎_elim
      (λ e. let same : f + 1 ≡ suc n = omega (arith, e) in rw same now-last.0)
      (λ ne. all_whole n now-last.1 f (omega (arith, ne)))
      (cases_eq f n)

-- the bytes of a sync word that stands
standing : (stream : List ℕ) (place word : ℕ) → stands stream place word ≡ true → (i : ℕ) → i < 2 → get_or stream (place + i) 0 ≡ sync_byte word i
unfolding stands
standing stream place word h i lt =
    let parts = both (eqb (get_or stream place 0) (word / 256)) (eqb (get_or stream (place + 1) 0) (word % 256)) h in
    ⊎_elim
    (λ e.
    let here : place + i ≡ place = omega (arith, e) in
    ap (λ (k : ℕ). get_or stream k 0) here ∙ (eqb-true (get_or stream place 0) (word / 256) parts.0 ∙ ap (λ (j : ℕ). sync_byte word j) (sym e)))
    (λ ne.
    let one : i ≡ 1 = omega (arith, ne) in
    ap (λ (j : ℕ). get_or stream (place + j) 0) one
    ∙ (eqb-true (get_or stream (place + 1) 0) (word % 256) parts.1 ∙ ap (λ (j : ℕ). sync_byte word j) (sym one)))
    (cases_eq i 0)

module _
    (slots : ℕ) (stream tmcc words : List ℕ) (read : Read slots stream tmcc words) (long : length stream ≡ super_size slots)
    (room : length words ≡ words_size slots) (exact : Exact slots stream 0)
  where
    mark : (g : ℕ) → g < 8 → (stands stream (g * frame_size slots) W1 ≡ true) × (stands stream (g * frame_size slots + 10) (own (g + 1)) ≡ true)
    unfolding marked
    mark g hg =
        let start : 0 + (g + 1 - 1) * frame_size slots ≡ g * frame_size slots = rw (add-sub_cancel g 1) (omega arith) in
        let here : marked stream (g * frame_size slots) (own (g + 1)) ≡ true =
        subst (λ (k : ℕ). marked stream k (own (g + 1)) ≡ true) start (all_whole slots stream 0 8 exact.1 g hg) in
        both (stands stream (g * frame_size slots) W1) (stands stream (g * frame_size slots + 10) (own (g + 1))) here

    heads : (g i : ℕ) → g < 8 → i < 12 → get_or stream (g * frame_size slots + i) 0 ≡ head_byte tmcc (g + 1) i
    heads g i hg hi =
        let start = g * frame_size slots in
        ⊎_elim (λ low. standing stream start W1 (mark g hg).0 i low ∙ sym (head_first tmcc (g + 1) i low))
        (λ past.
        ⊎_elim
        (λ middle.
        let e : 2 + (i - 2) ≡ i = omega (arith, past) in
        let few-left : i - 2 < 8 = omega (arith, past, middle) in
        subst (λ (k : ℕ). get_or stream (start + k) 0 ≡ head_byte tmcc (g + 1) k) e
        (sym (cancel (get_or stream (start + (2 + (i - 2))) 0) (sequence (12 * g + (i - 2))))
        ∙ (ap (λ (x : ℕ). bit_xor x (sequence (12 * g + (i - 2)))) (sym (read.heads g (i - 2) hg few-left)) ∙ sym (head_tmcc tmcc g (i - 2) few-left))))
        (λ high.
        let e : 10 + (i - 10) ≡ i = omega (arith, high) in
        let two : i - 10 < 2 = omega (arith, high) in
        let at : start + (10 + (i - 10)) ≡ start + 10 + (i - 10) = omega arith in
        subst (λ (k : ℕ). get_or stream (start + k) 0 ≡ head_byte tmcc (g + 1) k) e
        (ap (λ (k : ℕ). get_or stream k 0) at
        ∙ (standing stream (start + 10) (own (g + 1)) (mark g hg).1 (i - 10) two ∙ sym (head_second tmcc (g + 1) (i - 10) two))))
        (cases_lt i 10))
        (cases_lt i 2)

    -- a byte of a word that was read, with the sequence added, is the byte that stood in the stream
    sent_is : (frame slot c : ℕ) → frame < 8 → slot < slots → c < 203 → sent slots (word_of slots words) frame slot c ≡ get_or stream (sent_at slots frame slot c) 0
    sent_is frame slot c hf hs hc =
        let start = word_place slots frame slot in
        let at : word_place slots (frame + 1 - 1) (slot + 1 - 1) ≡ start = rw (add-sub_cancel frame 1, add-sub_cancel slot 1) refl in
        let place : start + c ≡ (frame * slots + slot) * 204 + c = omega arith in
        let byte : get_or (word_of slots words (frame + 1) (slot + 1)) (c + 1) 0 ≡ bit_xor (get_or stream (sent_at slots frame slot c) 0) (sequence ((frame * slots + slot) * 204 + c)) =
        ap (λ (k : ℕ). get_or (take 204 (drop k words)) (c + 1) 0) at
        ∙ (get_or-take 204 (drop start words) (c + 1) 0 (omega arith)
        ∙ (get_or-drop start words (c + 1) 0
        ∙ (read.bytes frame slot c hf hs hc ∙ ap (λ (k : ℕ). bit_xor (get_or stream (sent_at slots frame slot c) 0) (sequence k)) place))) in
        ap (λ (x : ℕ). bit_xor x (sequence ((frame * slots + slot) * 204 + c))) byte
        ∙ cancel (get_or stream (sent_at slots frame slot c) 0) (sequence ((frame * slots + slot) * 204 + c))

    bodies :
        (g s c : ℕ) → g < 8 → s < slots → c < 203 →
        get_or stream (g * frame_size slots + (12 + 203 * s + c)) 0 ≡ sent slots (word_of slots words) ((203 * g + c) % 8) s ((203 * g + c) / 8)
    bodies g s c hg hs hc =
        let k = 203 * g + c in
        let turned : 8 * (k / 8) + k % 8 ≡ k = omega arith in
        let frame : k / 203 ≡ g = omega arith in
        let column : k % 203 ≡ c = omega arith in
        let place : sent_at slots (k % 8) s (k / 8) ≡ g * frame_size slots + (12 + 203 * s + c) =
        ap (λ (j : ℕ). part slots (j / 203) s + j % 203) turned
        ∙ (ap (λ (f : ℕ). part slots f s + k % 203) frame ∙ (ap (λ (j : ℕ). part slots g s + j) column ∙ omega arith)) in
        sym (sent_is (k % 8) s (k / 8) (omega arith) hs (omega arith) ∙ ap (λ (j : ℕ). get_or stream j 0) place)

    whole_super_frame : SuperFrame slots tmcc (word_of slots words) stream
    whole_super_frame = super_frame_from slots tmcc (word_of slots words) stream heads bodies long

pub read_whole :
    (slots : ℕ) (stream tmcc words : List ℕ) → Read slots stream tmcc words → length stream ≡ super_size slots → length words ≡ words_size slots →
    ReadWhole slots stream tmcc words
read_whole slots stream tmcc words read long room exact = whole_super_frame slots stream tmcc words read long room exact
