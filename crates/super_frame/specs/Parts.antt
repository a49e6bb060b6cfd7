-- The parts of a super-frame, while it is put together or taken apart. Frames and slots count from 0 here, as in the code.
-- Assumes nothing.
use Rattle.std.specs.Prelude.{◌≡◌, ℕ, ◌+◌, ◌*◌, ◌/◌, ◌%◌, ◌<◌, ◌≤◌, List, length, slice_index, slice_index_or}
use Rattle.frame_layout.specs.Layout.{frame_size, head_byte, dispersed}

-- where a slot's 203 bytes in a frame begin
abbrev pub part : ℕ → ℕ → ℕ → ℕ
part slots frame slot = frame * frame_size slots + (12 + 203 * slot)

-- The 203 elements from a place on are those of another list from a place on, and the others are as they were.
pub record Copied {X : Type 0} (rest : X) (from : List X) (at : ℕ) (before : List X) (to : ℕ) (after : List X) : Type 0 where
  pub size : length after ≡ length before
  pub here : (c : ℕ) → c < 203 → slice_index_or after (to + c) rest ≡ slice_index_or from (at + c) rest
  pub below : (place : ℕ) → place < to → slice_index_or after place rest ≡ slice_index_or before place rest
  pub above : (place : ℕ) → to + 203 ≤ place → slice_index_or after place rest ≡ slice_index_or before place rest

-- A list of bytes stands at a place, and the other bytes are as they were.
pub record Put (part before : List ℕ) (to : ℕ) (after : List ℕ) : Type 0 where
  pub size : length after ≡ length before
  pub here : (c : ℕ) → c < length part → slice_index after (to + c) ≡ slice_index part c
  pub below : (place : ℕ) → place < to → slice_index after place ≡ slice_index before place
  pub above : (place : ℕ) → to + length part ≤ place → slice_index after place ≡ slice_index before place

-- The rows of a block are the parts of a slot in the eight frames.
pub record Gathered {X : Type 0} (rest : X) (slots slot : ℕ) (bytes block : List X) : Type 0 where
  pub size : length block ≡ 1624
  pub rows :
      (frame c : ℕ) → frame < 8 → c < 203 →
      slice_index_or block (203 * frame + c) rest ≡ slice_index_or bytes (part slots frame slot + c) rest

-- The heads of the frames are as they were.
abbrev pub SameHeads : ℕ → List ℕ → List ℕ → Type 0
SameHeads slots before after =
    (frame i : ℕ) → frame < 8 → i < 12 →
    slice_index after (frame * frame_size slots + i) ≡ slice_index before (frame * frame_size slots + i)

-- A slot is as it was, in each frame.
abbrev pub SameSlot : ℕ → List ℕ → List ℕ → ℕ → Type 0
SameSlot slots before after slot =
    (frame c : ℕ) → frame < 8 → c < 203 →
    slice_index after (part slots frame slot + c) ≡ slice_index before (part slots frame slot + c)

-- Frame by frame a slot has now the elements of its interleaved block, of which its parts were the rows.
abbrev pub InterleavedSlot : ℕ → List ℕ → List ℕ → ℕ → Type 0
InterleavedSlot slots before after slot =
    (frame c : ℕ) → frame < 8 → c < 203 →
    slice_index after (part slots frame slot + c)
    ≡ slice_index before (part slots ((203 * frame + c) % 8) slot + (203 * frame + c) / 8)

-- The words of a number below n stand as rows: each in its own frame's part of its slot, with the sequence added.
abbrev pub Staged : ℕ → (ℕ → ℕ → List ℕ) → ℕ → List ℕ → Type 0
Staged slots words n bytes =
    (frame slot c : ℕ) → frame < 8 → slot < slots → frame * slots + slot < n → c < 203 →
    slice_index bytes (part slots frame slot + c) ≡ dispersed slots words (frame + 1) (slot + 1) (c + 2)

-- The head of a frame is written, and the other bytes are as they were.
pub record Headed (slots : ℕ) (tmcc : List ℕ) (frame : ℕ) (before after : List ℕ) : Type 0 where
  pub head : (i : ℕ) → i < 12 → slice_index after (frame * frame_size slots + i) ≡ head_byte tmcc (frame + 1) i
  pub below : (place : ℕ) → place < frame * frame_size slots → slice_index after place ≡ slice_index before place
  pub above : (place : ℕ) → frame * frame_size slots + 12 ≤ place → slice_index after place ≡ slice_index before place
