-- What is read from the bytes of a super-frame. The words are joined frame by frame and slot by slot, 204 elements each. Frames and slots
-- count from 0 here, as in the code. Assumes nothing.
use Rattle.std.specs.Prelude.{◌≡◌, ℕ, ◌+◌, ◌-◌, ◌*◌, ◌/◌, ◌%◌, ◌<◌, ◌≤◌, List, length, get_or, take, drop, bit_xor, slice_index, slice_index_or}
use Rattle.dispersal.specs.Stages.{sequence}
use Rattle.frame_layout.specs.Layout.{frame_size, super_size, SuperFrame}
use Rattle.frame_layout.specs.Marks.{Exact}
use Rattle.super_frame.specs.Parts.{part}

-- how many elements the words have
abbrev pub words_size : ℕ → ℕ
words_size slots = 204 * (8 * slots)

-- the lengths of a super-frame and of its words
abbrev pub Lengths : {X Y : Type 0} → ℕ → List X → List Y → Type 0
Lengths slots stream words = (length stream ≡ super_size slots) × (length words ≡ words_size slots)

-- where a word begins
abbrev pub word_place : ℕ → ℕ → ℕ → ℕ
word_place slots frame slot = 204 * (frame * slots + slot)

-- Where the element stands that column c of row `frame` of a slot's block was sent as: it is element 8 × c + frame of the interleaved block, and
-- each frame carries 203 of them.
abbrev pub sent_at : ℕ → ℕ → ℕ → ℕ → ℕ
sent_at slots frame slot c = part slots ((8 * c + frame) / 203) slot + (8 * c + frame) % 203

-- A row of a block stands behind a first element as a word, and the other elements are as they were.
pub record RowPut {X : Type 0} (rest : X) (rows : List X) (frame : ℕ) (first : X) (before : List X) (start : ℕ) (after : List X) : Type 0 where
  pub begins : get_or after start rest ≡ first
  pub row : (c : ℕ) → c < 203 → slice_index_or after (start + (c + 1)) rest ≡ slice_index_or rows (203 * frame + c) rest
  pub below : (place : ℕ) → place < start → slice_index_or after place rest ≡ slice_index_or before place rest
  pub above : (place : ℕ) → start + 204 ≤ place → slice_index_or after place rest ≡ slice_index_or before place rest

-- The rows below n of a block stand as the words of a slot.
pub record RowsPut {X : Type 0} (rest first : X) (slots slot n : ℕ) (rows words : List X) : Type 0 where
  pub begins : (frame : ℕ) → frame < n → slice_index_or words (word_place slots frame slot) rest ≡ first
  pub row :
      (frame c : ℕ) → frame < n → c < 203 →
      slice_index_or words (word_place slots frame slot + (c + 1)) rest ≡ slice_index_or rows (203 * frame + c) rest

-- Each word begins with an element that was not sent, and goes on with its row.
pub record Taken {X : Type 0} (rest first : X) (slots : ℕ) (stream words : List X) (slot : ℕ) : Type 0 where
  pub begins : (frame : ℕ) → frame < 8 → slice_index_or words (word_place slots frame slot) rest ≡ first
  pub row :
      (frame c : ℕ) → frame < 8 → c < 203 →
      slice_index_or words (word_place slots frame slot + (c + 1)) rest ≡ slice_index_or stream (sent_at slots frame slot c) rest

-- The words of a slot are as they were.
abbrev pub SameWords : {X : Type 0} → X → ℕ → List X → List X → ℕ → Type 0
SameWords rest slots before after slot =
    (frame i : ℕ) → frame < 8 → i < 204 → slice_index_or after (word_place slots frame slot + i) rest ≡ slice_index_or before (word_place slots frame slot + i) rest

-- The sequence is taken off a word from its byte n on: off all bytes but the first, which was not sent. The bytes around are as they were.
pub record Off (n start : ℕ) (before after : List ℕ) : Type 0 where
  pub here :
      (c : ℕ) → c < 203 → slice_index after (start + (c + 1)) ≡ bit_xor (slice_index before (start + (c + 1))) (sequence (n + c))
  pub below : (place : ℕ) → place < start + 1 → slice_index after place ≡ slice_index before place
  pub above : (place : ℕ) → start + 204 ≤ place → slice_index after place ≡ slice_index before place

-- The sequence is taken off the words of a number below n. It runs on beneath the bytes that were not sent.
pub record OffWords (n : ℕ) (before after : List ℕ) : Type 0 where
  pub begins : (m : ℕ) → m < n → slice_index after (204 * m) ≡ slice_index before (204 * m)
  pub row :
      (m c : ℕ) → m < n → c < 203 →
      slice_index after (204 * m + (c + 1)) ≡ bit_xor (slice_index before (204 * m + (c + 1))) (sequence (204 * m + c))

-- The TMCC bytes of the first n frames, with the sequence taken off.
abbrev pub TmccRead : ℕ → List ℕ → ℕ → List ℕ → Type 0
TmccRead slots stream n tmcc =
    (frame i : ℕ) → frame < n → i < 8 →
    slice_index tmcc (8 * frame + i) ≡ bit_xor (slice_index stream (frame * frame_size slots + (2 + i))) (sequence (12 * frame + i))

-- What is read from any bytes of a super-frame's length: the TMCC word, and words that begin with 47h.
pub record Read (slots : ℕ) (stream tmcc words : List ℕ) : Type 0 where
  pub heads : TmccRead slots stream 8 tmcc
  pub begins : (frame slot : ℕ) → frame < 8 → slot < slots → slice_index words (word_place slots frame slot) ≡ 0x47
  pub bytes :
      (frame slot c : ℕ) → frame < 8 → slot < slots → c < 203 →
      slice_index words (word_place slots frame slot + (c + 1))
      ≡ bit_xor (slice_index stream (sent_at slots frame slot c)) (sequence (word_place slots frame slot + c))

-- What was sent is read: the TMCC word, and each word's bytes but the first, so that a word that begins with 47h is read whole.
pub record ReadBack (slots : ℕ) (tmcc-sent : List ℕ) (sent : ℕ → ℕ → List ℕ) (tmcc words : List ℕ) : Type 0 where
  pub heads : length tmcc-sent ≡ 64 → tmcc ≡ tmcc-sent
  pub bytes :
      (frame slot c : ℕ) → frame < 8 → slot < slots → c < 203 →
      slice_index words (word_place slots frame slot + (c + 1)) ≡ slice_index (sent (frame + 1) (slot + 1)) (c + 1)
  pub word :
      (frame slot : ℕ) → frame < 8 → slot < slots → length (sent (frame + 1) (slot + 1)) ≡ 204 →
      slice_index (sent (frame + 1) (slot + 1)) 0 ≡ 0x47 →
      take 204 (drop (word_place slots frame slot) words) ≡ sent (frame + 1) (slot + 1)

-- of words that are joined frame by frame and slot by slot, the one of slot s in frame f, both counted from 1
abbrev pub word_of : ℕ → List ℕ → ℕ → ℕ → List ℕ
word_of slots words f s = take 204 (drop (word_place slots (f - 1) (s - 1)) words)

-- Bytes that have an exact head are the super-frame of what is read from them.
abbrev pub ReadWhole : ℕ → List ℕ → List ℕ → List ℕ → Type 0
ReadWhole slots stream tmcc words = Exact slots stream 0 → SuperFrame slots tmcc (word_of slots words) stream
