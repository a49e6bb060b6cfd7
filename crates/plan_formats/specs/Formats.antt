-- The two formats of a slot plan: the station's plan file and the TMCC data. Assumes nothing.
use Rattle.std.specs.Prelude.{◌≡◌, ℕ, ◌<◌, ◌≤◌, List, ◌∷◌, slice_index}
use Rattle.slot_plan.specs.Layout.{Shaped}
use Rattle.slot_plan.specs.declared.fields.Fields.{Fields}
use Rattle.plan_formats.specs.Bits.{Field, Holds}
use Rattle.plan_formats.specs.Body.{body}
use Rattle.plan_formats.specs.declared.body.Widths.{Widths}

-- in a plan file each number has whole bytes, and there is a stream number for each slot of the frame
abbrev pub file_widths : ℕ → Widths
file_widths slots = record { word = 8; count = 8; stream = 8; streams = slots; control = 8; expanded = 64 }

-- in the TMCC data the numbers have no bit to spare, and there are always 48 stream numbers
abbrev pub tmcc_widths : Widths
tmcc_widths = record { word = 4; count = 6; stream = 3; streams = 48; control = 5; expanded = 62 }

-- the mark SLP, the version 1, the number of slots, and the plan
unfoldable pub file_fields : Fields → List Field
file_fields f = (24, 0x534C50) ∷ (16, 1) ∷ (8, f.slots) ∷ body (file_widths f.slots) f

-- the order of change, and the plan
unfoldable pub tmcc_fields : ℕ → Fields → List Field
tmcc_fields order f = (5, order) ∷ body tmcc_widths f

-- The bytes are the plan file of these fields: there is room for 48 slots, and one that the file does not name has stream 0.
pub record PlanFile (bytes : List ℕ) (f : Fields) : Type 0 where
  pub shaped : Shaped f
  pub room : f.slots ≤ 48
  pub beyond : (index : ℕ) → f.slots ≤ index → slice_index f.streams index ≡ 0
  pub holds : Holds bytes (file_fields f)

-- The bytes are the TMCC data of this order of change and these fields, for a frame of so many slots.
pub record TmccData (bytes : List ℕ) (slots order : ℕ) (f : Fields) : Type 0 where
  pub shaped : Shaped f
  pub frame : f.slots ≡ slots
  pub holds : Holds bytes (tmcc_fields order f)

-- each is a byte
abbrev pub Bytes : List ℕ → Type 0
Bytes bytes = (k : ℕ) → slice_index bytes k < 256
