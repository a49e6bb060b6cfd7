-- Frame marks in a stream of bytes, and the heads that they make. Frames count from 1, places from 0. Assumes nothing.
use Rattle.std.specs.Prelude.{◌≡◌, ℕ, zero, suc, ◌+◌, ◌-◌, ◌*◌, ◌/◌, ◌%◌, ◌≤◌, Bool, true, cond, ◌&&◌, ◌⊎◌, List, length, ◌==◌, slice_index}
use Rattle.frame_layout.specs.Layout.{frame_size, super_size, W1, W2, W3, own}

-- whether a sync word stands at a place
unfoldable pub stands : List ℕ → ℕ → ℕ → Bool
stands stream place word = slice_index stream place == word / 256 && slice_index stream (place + 1) == word % 256

-- whether W1, any eight bytes and a second sync word stand there
unfoldable pub marked : List ℕ → ℕ → ℕ → Bool
marked stream place word = stands stream place W1 && stands stream (place + 10) word

-- a frame mark stands at a place
abbrev pub FrameMark : List ℕ → ℕ → Type 0
FrameMark stream place =
    (place + 12 ≤ length stream) × ((marked stream place W2 ≡ true) ⊎ (marked stream place W3 ≡ true))

-- Whether frame f of a super-frame that begins at a place has its own mark: the mark is harmed if not.
abbrev pub whole : ℕ → List ℕ → ℕ → ℕ → Bool
whole slots stream place f = marked stream (place + (f - 1) * frame_size slots) (own f)

-- how many of the frames 1 to n have theirs
unfoldable pub whole_up_to : ℕ → List ℕ → ℕ → ℕ → ℕ
whole_up_to slots stream place zero = 0
whole_up_to slots stream place (suc n) =
    whole_up_to slots stream place n + cond (whole slots stream place (suc n)) 1 0

-- a super-frame's bytes remain from a place on
abbrev pub Remains : ℕ → List ℕ → ℕ → Type 0
Remains slots stream place = place + super_size slots ≤ length stream

-- A head is exact where the bytes remain and all eight frames have their own marks.
abbrev pub Exact : ℕ → List ℕ → ℕ → Type 0
Exact slots stream place = Remains slots stream place × (whole_up_to slots stream place 8 ≡ 8)

-- It is held with seven or eight of them.
abbrev pub Held : ℕ → List ℕ → ℕ → Type 0
Held slots stream place = Remains slots stream place × (7 ≤ whole_up_to slots stream place 8)

-- Super-frames are clear when, in their joined bytes, a frame mark stands only at frame starts.
abbrev pub Clear : ℕ → List ℕ → Type 0
Clear slots stream = (place : ℕ) → FrameMark stream place → place % frame_size slots ≡ 0
