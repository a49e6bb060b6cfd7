-- What the plan file and the TMCC data have in common: the numbers of a plan, joined without gaps. Assumes nothing.
use Rattle.std.specs.Prelude.{◌≡◌, ℕ, ◌+◌, ◌*◌, ◌^◌, ◌<◌, ◌≤◌, List, [], ◌∷◌, ◌++◌, take, slice_index}
use Rattle.slot_plan.specs.Layout.{words, counts}
use Rattle.slot_plan.specs.declared.fields.Fields.{Fields}
use Rattle.plan_formats.specs.Bits.{Field, joined, width, Fit}
use Rattle.plan_formats.specs.declared.body.Widths.{Widths}

-- numbers of one width
unfoldable pub numbers : ℕ → List ℕ → List Field
numbers w [] = []
numbers w (x ∷ xs) = (w, x) ∷ numbers w xs

-- the mode word and the slot count of each of the four lines
unfoldable pub lines : ℕ → ℕ → List ℕ → List ℕ → List Field
lines w c words counts =
    (w, slice_index words 0) ∷ (c, slice_index counts 0) ∷ (w, slice_index words 1) ∷ (c, slice_index counts 1)
    ∷ (w, slice_index words 2) ∷ (c, slice_index counts 2) ∷ (w, slice_index words 3) ∷ (c, slice_index counts 3) ∷ []

-- the lines, the stream numbers that the format has room for, the eight TS_IDs of 16 bits, the control bits and the expanded bits
unfoldable pub body : Widths → Fields → List Field
body w f =
    lines w.word w.count (words f) (counts f) ++ (numbers w.stream (take w.streams f.streams)
    ++ (numbers 16 f.ts_ids ++ ((w.control, f.control) ∷ (w.expanded, f.expanded) ∷ [])))

-- how many bits that takes
abbrev pub body_width : Widths → ℕ
body_width w = 4 * (w.word + w.count) + w.stream * w.streams + 16 * 8 + w.control + w.expanded

-- a format's widths are no wider than the numbers of a plan
abbrev pub Narrow : Widths → Type 0
Narrow w =
    (w.word ≤ 8) × ((w.count ≤ 8) × ((w.stream ≤ 8) × ((w.streams ≤ 48) × ((w.control ≤ 8) × (w.expanded ≤ 64)))))

-- where a format gives numbers fewer bits than a plan holds them in, they fit all the same
pub record Small (w : Widths) (f : Fields) : Type 0 where
  pub words : w.word < 8 → (k : ℕ) → slice_index (words f) k < 2 ^ w.word
  pub counts : w.count < 8 → (k : ℕ) → slice_index (counts f) k < 2 ^ w.count
  pub streams : w.stream < 8 → (k : ℕ) → k < w.streams → slice_index f.streams k < 2 ^ w.stream
  pub control : w.control < 8 → f.control < 2 ^ w.control
  pub expanded : w.expanded < 64 → f.expanded < 2 ^ w.expanded

-- From a place on stand these fields, up to another place: x and y are the numbers in all bits before the two places.
pub record Run (x from : ℕ) (fields : List Field) (y to : ℕ) : Type 0 where
  pub place : to ≡ from + width fields
  pub value : y ≡ joined x fields
  pub fits : Fit fields
