-- What the fields of a plan say of lines and slots. Lines count from 1 to 4 and slots from 1, as the plan's readers count them. Assumes nothing.
use Rattle.std.specs.Prelude.{◌≡◌, ℕ, ◌-◌, ◌%◌, Bool, cond, List, [], ◌∷◌, map, length, nat_lt, slice_index}
use Rattle.slot_plan.specs.Modes.{unit, active_in_unit}
use Rattle.slot_plan.specs.declared.fields.Fields.{Fields}

-- there are four lines, 48 stream numbers and eight TS_IDs
abbrev pub Shaped : Fields → Type 0
Shaped f =
    (length f.lines ≡ 4) × (length f.streams ≡ 48) × (length f.ts_ids ≡ 8)

-- the mode word of each line
abbrev pub words : Fields → List ℕ
words f = map (λ l. l.word) f.lines

-- the slot count of each line
abbrev pub counts : Fields → List ℕ
counts f = map (λ l. l.count) f.lines

-- the mode word of a line
abbrev pub word : Fields → ℕ → ℕ
word f line = slice_index (words f) (line - 1)

-- the slot count of a line
abbrev pub count : Fields → ℕ → ℕ
count f line = slice_index (counts f) (line - 1)

-- the stream number of a slot
abbrev pub stream : Fields → ℕ → ℕ
stream f slot = slice_index f.streams (slot - 1)

-- the TS_ID of a stream
abbrev pub ts_id : Fields → ℕ → ℕ
ts_id f number = slice_index f.ts_ids number

-- Lines take their slots in order. Of the slots that lines of these words and counts take, the word of the line that has
-- the slot at a place, counted from 0: 0 where no line has it
abbrev pub word_among : List ℕ → List ℕ → ℕ → ℕ
word_among [] cs place = 0
word_among (w ∷ ws) [] place = 0
word_among (w ∷ ws) (c ∷ cs) place = cond (nat_lt place c) w (word_among ws cs (place - c))

-- the place of the same slot within its line, from 0
abbrev pub place_among : List ℕ → ℕ → ℕ
place_among [] place = place
place_among (c ∷ cs) place = cond (nat_lt place c) place (place_among cs (place - c))

-- the mode word of a slot
unfoldable pub mode_word : Fields → ℕ → ℕ
mode_word f slot = word_among (words f) (counts f) (slot - 1)

-- a line's slots are cut into units of its mode, and the first slots of each unit are active; the others are dummy slots
unfoldable pub active : Fields → ℕ → Bool
active f slot =
    nat_lt (place_among (counts f) (slot - 1) % unit (mode_word f slot)) (active_in_unit (mode_word f slot))
