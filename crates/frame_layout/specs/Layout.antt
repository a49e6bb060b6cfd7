-- Which byte stands at each place of a super-frame. Frames, slots and a word's bytes count from 1, places from 0.
-- A word is the 204 bytes of a slot in one frame; `words f s` is that of slot s in frame f.
-- Assumes nothing.
use Rattle.std.specs.Prelude.{◌≡◌, ℕ, ◌+◌, ◌-◌, ◌*◌, ◌/◌, ◌%◌, ◌<◌, cond, List, length, ◌==◌, bit_xor, nat_lt, slice_index}
use Rattle.dispersal.specs.Stages.{sequence}
use Rattle.interleaver.specs.Blocks.{row, column}

-- how many bytes a frame has, by its slots: a head of twelve and 203 for each slot
abbrev pub frame_size : ℕ → ℕ
frame_size slots = 12 + 203 * slots

-- how many a super-frame has: eight frames
abbrev pub super_size : ℕ → ℕ
super_size slots = 8 * frame_size slots

-- the sync words, of two bytes, high byte first: W1 begins each frame
abbrev pub W1 : ℕ
W1 = 0x1B95

-- W2 ends the head of frame 1
abbrev pub W2 : ℕ
W2 = 0xA340

-- W3 ends the head of frames 2 to 8
abbrev pub W3 : ℕ
W3 = 0x5CBF

-- the sync word that ends the head of frame f
abbrev pub own : ℕ → ℕ
own f = cond (f == 1) W2 W3

-- a sync word's byte 0 or 1
abbrev pub sync_byte : ℕ → ℕ → ℕ
sync_byte word i = cond (i == 0) (word / 256) (word % 256)

-- The TMCC byte i of frame f, i from 0 to 7. The sequence runs on beneath the sync words.
unfoldable pub tmcc_byte : List ℕ → ℕ → ℕ → ℕ
tmcc_byte tmcc f i = bit_xor (slice_index tmcc (8 * (f - 1) + i)) (sequence (12 * (f - 1) + i))

-- byte i of the head of frame f, i from 0 to 11: W1, eight TMCC bytes, and the frame's own sync word
unfoldable pub head_byte : List ℕ → ℕ → ℕ → ℕ
head_byte tmcc f i =
    cond (nat_lt i 2) (sync_byte W1 i) (cond (nat_lt i 10) (tmcc_byte tmcc f (i - 2)) (sync_byte (own f) (i - 10)))

-- Byte b of the word of slot s in frame f, b from 2 to 204, with the sequence added. Byte 1 is not sent, but the sequence runs on beneath it.
unfoldable pub dispersed : ℕ → (ℕ → ℕ → List ℕ) → ℕ → ℕ → ℕ → ℕ
dispersed slots words f s b =
    bit_xor (slice_index (words f s) (b - 1)) (sequence (((f - 1) * slots + (s - 1)) * 204 + (b - 2)))

-- Byte i of slot s in frame f, i from 0 to 202. The rows of the slot's block are the bytes 2 to 204 in each frame, and frame f
-- carries 203 elements of the interleaved block.
unfoldable pub slot_byte : ℕ → (ℕ → ℕ → List ℕ) → ℕ → ℕ → ℕ → ℕ
slot_byte slots words f s i =
    dispersed slots words (row (203 * (f - 1) + i)) s (column (203 * (f - 1) + i) + 1)

-- byte i of frame f, from 0: the head and then the slots
unfoldable pub frame_byte : ℕ → List ℕ → (ℕ → ℕ → List ℕ) → ℕ → ℕ → ℕ
frame_byte slots tmcc words f i =
    cond (nat_lt i 12) (head_byte tmcc f i) (slot_byte slots words f ((i - 12) / 203 + 1) ((i - 12) % 203))

-- the byte at a place of a super-frame: frame after frame
unfoldable pub byte_at : ℕ → List ℕ → (ℕ → ℕ → List ℕ) → ℕ → ℕ
byte_at slots tmcc words place =
    frame_byte slots tmcc words (place / frame_size slots + 1) (place % frame_size slots)

-- The bytes are the super-frame of these slots that carries this TMCC word and these words.
pub record SuperFrame (slots : ℕ) (tmcc : List ℕ) (words : ℕ → ℕ → List ℕ) (stream : List ℕ) : Type 0 where
  pub size : length stream ≡ super_size slots
  pub bytes : (place : ℕ) → place < super_size slots → slice_index stream place ≡ byte_at slots tmcc words place
