-- How the TMCC data and a super-frame of that plan begin. Assumes nothing.
use Rattle.std.proofs.Common.{◌≡◌, ℕ, zero, suc, ◌+◌, ◌*◌, ◌<◌, ◌≤◌, List, [], ◌∷◌, ◌++◌, length, get_or, take, sym, refl, ap, ◌∙◌, subst, inl, inr, arith}
use lib.Bits.{bit_xor}
use Rattle.dispersal.specs.Stages.{sequence, bits, state}
use Rattle.frame_layout.specs.Layout.{byte_at, frame_byte, head_byte, tmcc_byte}
use Rattle.slot_plan.specs.declared.fields.Fields.{Fields}
use Rattle.plan_formats.specs.Bits.{Field, front, joined, width, Holds}
use Rattle.plan_formats.specs.Body.{body, lines, numbers}
use Rattle.plan_formats.specs.Formats.{Bytes, tmcc_fields}
use Rattle.plan_formats.proofs.Heads.{front_byte, front_none}
use Rattle.plan_formats.proofs.Prefixes.{holds_front}
use Rattle.std.proofs.lemmas.List.{get_or-take, get_or_past, length-take}
use Rattle.std.proofs.lemmas.Bool.{cases_lt}
use Rattle.known_results.specs.Known.{FortySixAndTwo, DataBegin, SuperFrameBegins, SequenceBegins}

-- the first 48 bits
first_fields : List Field
first_fields = (5, 0) ∷ (4, 7) ∷ (6, 46) ∷ (4, 2) ∷ (6, 2) ∷ (4, 15) ∷ (6, 0) ∷ (4, 15) ∷ (6, 0) ∷ (3, 0) ∷ []

rest_fields : Fields → List ℕ → List Field
rest_fields f others = numbers 3 (take 47 others) ++ (numbers 16 f.ts_ids ++ ((5, f.control) ∷ (62, f.expanded) ∷ []))

-- the fields with these lines and stream 0 first
split_lists :
    (f : Fields) (others : List ℕ) → FortySixAndTwo f → f.streams ≡ 0 ∷ others → tmcc_fields 0 f ≡ first_fields ++ rest_fields f others
unfolding tmcc_fields body lines numbers first_fields rest_fields
split_lists f others p e = rw (p.words, p.counts, e) refl

first_number : joined 0 first_fields ≡ 0x03DC41781E00
unfolding joined first_fields
first_number = refl

first_width : width first_fields ≡ 48
unfolding width first_fields
first_width = refl

six :
    (a b c d e f : ℕ) → a < 256 → b < 256 → c < 256 → d < 256 → e < 256 → f < 256 →
    ((((a * 256 + b) * 256 + c) * 256 + d) * 256 + e) * 256 + f ≡ 0x03DC41781E00 →
    (a ≡ 0x03) × (b ≡ 0xDC) × (c ≡ 0x41) × (d ≡ 0x78) × (e ≡ 0x1E) × (f ≡ 0x00)
six a b c d e f ha hb hc hd he hf s = (omega arith, omega arith, omega arith, omega arith, omega arith, omega arith)

uncons : (xs : List ℕ) (n : ℕ) → length xs ≡ suc n → get_or xs 0 0 ≡ 0 → (others : List ℕ) × (xs ≡ 0 ∷ others)
uncons [] n len e = absurd (omega (arith, len))
uncons (x ∷ xs) n len e = (xs, ap (λ (y : ℕ). y ∷ xs) e)

pub data_begin : DataBegin
data_begin f b p zero-stream bytes t =
    let streams = uncons f.streams 47 t.shaped.1 zero-stream in
    let others = streams.0 in
    let holds : Holds b (first_fields ++ rest_fields f others) = subst (λ (l : List Field). Holds b l) (split_lists f others p streams.1) t.holds in
    let all : front b 48 ≡ 0x03DC41781E00 = ap (front b) (sym first_width) ∙ holds_front b first_fields (rest_fields f others) holds ∙ first_number in
    six (get_or b 0 0) (get_or b 1 0) (get_or b 2 0) (get_or b 3 0) (get_or b 4 0) (get_or b 5 0) (bytes 0) (bytes 1) (bytes 2) (bytes 3) (bytes 4) (bytes 5)
    (omega (arith, all, front_none b, front_byte b 0 (bytes 0), front_byte b 1 (bytes 1), front_byte b 2 (bytes 2), front_byte b 3 (bytes 3), front_byte b 4 (bytes 4), front_byte b 5 (bytes 5)))

pub sequence_begins : SequenceBegins
unfolding sequence bits state
sequence_begins = (refl, refl, refl, refl)

-- the first bytes of bytes are bytes
taken_bytes : (w : List ℕ) → Bytes w → Bytes (take 48 w)
taken_bytes w bytes k =
    elim (cases_lt k 48) [
      | inl l ↦ omega (arith, get_or-take 48 w k 0 l, bytes k)
      | inr l ↦
          let past : length (take 48 w) ≤ k = omega (arith, length-take 48 w, l) in
          omega (arith, get_or_past (take 48 w) k 0 past)
    ]

head_at : (tmcc : List ℕ) (words : ℕ → ℕ → List ℕ) (i x : ℕ) → i < 4 → get_or tmcc i 0 ≡ x → byte_at 48 tmcc words (2 + i) ≡ bit_xor x (sequence i)
unfolding byte_at frame_byte head_byte tmcc_byte
head_at tmcc words zero x h e = ap (λ (y : ℕ). bit_xor y (sequence 0)) e
head_at tmcc words (suc zero) x h e = ap (λ (y : ℕ). bit_xor y (sequence 1)) e
head_at tmcc words (suc (suc zero)) x h e = ap (λ (y : ℕ). bit_xor y (sequence 2)) e
head_at tmcc words (suc (suc (suc zero))) x h e = ap (λ (y : ℕ). bit_xor y (sequence 3)) e
head_at tmcc words (suc (suc (suc (suc i)))) x h e = absurd (omega (arith, h))

marks : (tmcc : List ℕ) (words : ℕ → ℕ → List ℕ) → (byte_at 48 tmcc words 0 ≡ 0x1B) × (byte_at 48 tmcc words 1 ≡ 0x95)
unfolding byte_at frame_byte head_byte
marks tmcc words = (refl, refl)

pub super_frame_begins : SuperFrameBegins
super_frame_begins f tmcc words stream p zero-stream t s =
    let m = marks tmcc words in
    let q = sequence_begins in
    let at : (i : ℕ) → i < 48 → get_or (take 48 tmcc) i 0 ≡ get_or tmcc i 0 = λ i h. get_or-take 48 tmcc i 0 h in
    let front_bytes : Bytes (take 48 tmcc) = taken_bytes tmcc t.bytes in
    let d = data_begin f (take 48 tmcc) p zero-stream front_bytes t.states in (
      s.bytes 0 (omega arith) ∙ m.0,
      s.bytes 1 (omega arith) ∙ m.1,
      s.bytes 2 (omega arith) ∙ head_at tmcc words 0 0x03 (omega arith) (sym (at 0 (omega arith)) ∙ d.0) ∙ ap (λ (y : ℕ). bit_xor 0x03 y) q.0,
      s.bytes 3 (omega arith) ∙ head_at tmcc words 1 0xDC (omega arith) (sym (at 1 (omega arith)) ∙ d.1) ∙ ap (λ (y : ℕ). bit_xor 0xDC y) q.1,
      s.bytes 4 (omega arith) ∙ head_at tmcc words 2 0x41 (omega arith) (sym (at 2 (omega arith)) ∙ d.2) ∙ ap (λ (y : ℕ). bit_xor 0x41 y) q.2,
      s.bytes 5 (omega arith) ∙ head_at tmcc words 3 0x78 (omega arith) (sym (at 3 (omega arith)) ∙ d.3) ∙ ap (λ (y : ℕ). bit_xor 0x78 y) q.3,
    )
