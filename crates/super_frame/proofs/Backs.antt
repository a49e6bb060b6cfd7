-- What was sent is read. Assumes nothing.
use Rattle.std.proofs.Common.{◌≡◌, ℕ, ◌+◌, ◌-◌, ◌*◌, ◌/◌, ◌%◌, ◌<◌, ◌≤◌, List, length, get_or, take, drop, sym, ap, ◌∙◌, subst, ⊎_elim, arith}
use lib.Bits.{bit_xor, xor_assoc, xor_self, xor_zero_r}
use Rattle.std.proofs.lemmas.List.{ext_get_or, length-drop, length-take-le, get_or-take, get_or-drop}
use Rattle.std.proofs.lemmas.Bool.{cases_eq}
use Rattle.dispersal.specs.Stages.{sequence}
use Rattle.frame_layout.specs.Layout.{frame_size, SuperFrame}
use Rattle.frame_layout.proofs.Places.{within, sent, at_head, at_slot}
use Rattle.frame_layout.proofs.Heads.{head_tmcc}
use Rattle.super_frame.specs.Reads.{words_size, word_place, sent_at, Read, ReadBack}
use Rattle.super_frame.proofs.Takings.{word_within}

pub cancel : (x y : ℕ) → bit_xor (bit_xor x y) y ≡ x
cancel x y = xor_assoc x y y ∙ (ap (λ (z : ℕ). bit_xor x z) (xor_self y) ∙ xor_zero_r x)

module _
    (slots : ℕ) (stream tmcc words word : List ℕ) (own : ℕ → ℕ → List ℕ) (super : SuperFrame slots word own stream)
    (read : Read slots stream tmcc words) (size : length words ≡ words_size slots) (sixty-four : length tmcc ≡ 64)
  where
    sent_byte : (frame slot c : ℕ) → frame < 8 → slot < slots → c < 203 → get_or stream (sent_at slots frame slot c) 0 ≡ sent slots own frame slot c
    sent_byte frame slot c hf hs hc =
        let k = 8 * c + frame in
        let g = k / 203 in
        let i = k % 203 in
        let hg : g < 8 = omega arith in
        let hi : i < 203 = omega arith in
        let p : sent_at slots frame slot c ≡ g * frame_size slots + (12 + 203 * slot + i) = omega arith in
        let row : (203 * g + i) % 8 ≡ frame = omega arith in
        let column : (203 * g + i) / 8 ≡ c = omega arith in
        ap (λ (x : ℕ). get_or stream x 0) p
        ∙ (super.bytes (g * frame_size slots + (12 + 203 * slot + i)) (within slots g (12 + 203 * slot + i) hg (omega arith))
        ∙ (at_slot slots word own g slot i hs hi
        ∙ (ap (λ (f : ℕ). sent slots own f slot ((203 * g + i) / 8)) row ∙ ap (λ (x : ℕ). sent slots own frame slot x) column)))

    byte : (frame slot c : ℕ) → frame < 8 → slot < slots → c < 203 → get_or words (word_place slots frame slot + (c + 1)) 0 ≡ get_or (own (frame + 1) (slot + 1)) (c + 1) 0
    byte frame slot c hf hs hc =
        let same : word_place slots frame slot + c ≡ (frame * slots + slot) * 204 + c = omega arith in
        read.bytes frame slot c hf hs hc
        ∙ (ap (λ (x : ℕ). bit_xor x (sequence (word_place slots frame slot + c))) (sent_byte frame slot c hf hs hc)
        ∙ (ap (λ (x : ℕ). bit_xor (sent slots own frame slot c) (sequence x)) same
        ∙ cancel (get_or (own (frame + 1) (slot + 1)) (c + 1) 0) (sequence ((frame * slots + slot) * 204 + c))))

    tmcc_byte : (frame i : ℕ) → frame < 8 → i < 8 → get_or tmcc (8 * frame + i) 0 ≡ get_or word (8 * frame + i) 0
    tmcc_byte frame i hf hi =
        read.heads frame i hf hi
        ∙ (ap (λ (x : ℕ). bit_xor x (sequence (12 * frame + i)))
        (super.bytes (frame * frame_size slots + (2 + i)) (within slots frame (2 + i) hf (omega arith))
        ∙ (at_head slots word own frame (2 + i) (omega arith) ∙ head_tmcc word frame i hi))
        ∙ cancel (get_or word (8 * frame + i) 0) (sequence (12 * frame + i)))

    whole :
        (frame slot : ℕ) → frame < 8 → slot < slots → length (own (frame + 1) (slot + 1)) ≡ 204 → get_or (own (frame + 1) (slot + 1)) 0 0 ≡ 0x47 →
        take 204 (drop (word_place slots frame slot) words) ≡ own (frame + 1) (slot + 1)
    whole frame slot hf hs long first =
        let start = word_place slots frame slot in
        let rest = drop start words in
        let room : 204 ≤ length rest = omega (arith, length-drop start words, word_within slots frame slot hf hs, size) in
        let part : length (take 204 rest) ≡ 204 = length-take-le 204 rest room in
        let at : (i : ℕ) → i < 204 → get_or words (start + i) 0 ≡ get_or (own (frame + 1) (slot + 1)) i 0 =
        λ i h.
        ⊎_elim
        (λ e.
        let z : start + i ≡ start = omega (arith, e) in
        ap (λ (j : ℕ). get_or words j 0) z
        ∙ (read.begins frame slot hf hs ∙ (sym first ∙ ap (λ (j : ℕ). get_or (own (frame + 1) (slot + 1)) j 0) (sym e))))
        (λ ne.
        let e : i - 1 + 1 ≡ i = omega (arith, ne) in
        subst (λ (j : ℕ). get_or words (start + j) 0 ≡ get_or (own (frame + 1) (slot + 1)) j 0) e (byte frame slot (i - 1) hf hs (omega (arith, h, ne))))
        (cases_eq i 0) in
        ext_get_or 0 (take 204 rest) (own (frame + 1) (slot + 1)) (part ∙ sym long)
        (λ i h. let hi : i < 204 = omega (arith, part, h) in get_or-take 204 rest i 0 hi ∙ (get_or-drop start words i 0 ∙ at i hi))

    pub read_back : ReadBack slots word own tmcc words
    read_back =
        record {
          heads = λ long.
              ext_get_or 0 tmcc word (sixty-four ∙ sym long)
              (λ k h.
              let e : 8 * (k / 8) + k % 8 ≡ k = omega arith in
              subst (λ (j : ℕ). get_or tmcc j 0 ≡ get_or word j 0) e (tmcc_byte (k / 8) (k % 8) (omega (arith, sixty-four)) (omega arith)));
          bytes = byte;
          word = whole;
        }
