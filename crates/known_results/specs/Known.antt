-- Results that follow from the rules, worked out by hand: each definition is held to them. Assumes nothing.
use Rattle.std.specs.Prelude.{◌≡◌, ℕ, ◌+◌, ◌-◌, ◌*◌, ◌<◌, ◌≤◌, true, false, List, [], ◌∷◌, length, Result, slice_index}
use Rattle.dispersal.specs.Stages.{sequence}
use Rattle.field256.specs.Field.{times}
use Rattle.frame_layout.specs.Layout.{super_size, SuperFrame}
use Rattle.frame_layout.specs.Marks.{whole_up_to, Remains, Exact, Held}
use Rattle.interleaver.specs.Blocks.{row, column}
use Rattle.outer_code.specs.Calls.{Answered}
use Rattle.outer_code.specs.Kinds.{Sync, Any}
use Rattle.outer_code.specs.Results.{AtSix}
use Rattle.outer_code.specs.declared.fault.CodeFault.{CodeFault}
use Rattle.plan_formats.specs.Formats.{Bytes, TmccData}
use Rattle.tmcc_word.specs.Words.{IsTmccCodeword}
use Rattle.slot_plan.specs.Faults.{First, number, rank}
use Rattle.slot_plan.specs.Layout.{active, words, counts}
use Rattle.slot_plan.specs.Rules.{Passes}
use Rattle.slot_plan.specs.declared.fault.PlanFault.TheVariants.{ModeWord, LineCount}
use Rattle.slot_plan.specs.declared.fields.Fields.{Fields}

-- the sequence begins 03h F6h 08h 34h
abbrev pub SequenceBegins : Type 0
SequenceBegins = (sequence 0 ≡ 0x03) × (sequence 1 ≡ 0xF6) × (sequence 2 ≡ 0x08) × (sequence 3 ≡ 0x34)

-- 02h times 80h is 1Dh
abbrev pub Product : Type 0
Product = times 0x02 0x80 ≡ 0x1D

-- where the interleaver takes three elements from
abbrev pub TakenFrom : Type 0
TakenFrom =
    (row 202 ≡ 3) × (column 202 ≡ 26) × (row 203 ≡ 4) × (column 203 ≡ 26) × (row 811 ≡ 4) × (column 811 ≡ 102)

-- row and column of the element that byte b of a slot in frame f has
abbrev pub read_from : ℕ → ℕ → ℕ × ℕ
read_from f b = (row (203 * (f - 1) + (b - 1)), column (203 * (f - 1) + (b - 1)))

-- of the first, the second and the last byte of a slot in frame f
abbrev pub read_addresses : ℕ → List (ℕ × ℕ)
read_addresses f = read_from f 1 ∷ read_from f 2 ∷ read_from f 203 ∷ []

-- the table of read addresses of a slot in Report ITU-R BO.1227-2
abbrev pub AddressTable : Type 0
AddressTable =
    (read_addresses 1 ≡ (1, 1) ∷ (2, 1) ∷ (3, 26) ∷ [])
    × (read_addresses 2 ≡ (4, 26) ∷ (5, 26) ∷ (6, 51) ∷ [])
    × (read_addresses 3 ≡ (7, 51) ∷ (8, 51) ∷ (1, 77) ∷ [])
    × (read_addresses 4 ≡ (2, 77) ∷ (3, 77) ∷ (4, 102) ∷ [])
    × (read_addresses 5 ≡ (5, 102) ∷ (6, 102) ∷ (7, 127) ∷ [])
    × (read_addresses 6 ≡ (8, 127) ∷ (1, 128) ∷ (2, 153) ∷ [])
    × (read_addresses 7 ≡ (3, 153) ∷ (4, 153) ∷ (5, 178) ∷ [])
    × (read_addresses 8 ≡ (6, 178) ∷ (7, 178) ∷ (8, 203) ∷ [])

-- the shortest and the longest super-frame
abbrev pub Lengths : Type 0
Lengths = (super_size 1 ≡ 1720) × (super_size 48 ≡ 78048)

-- a line of 46 slots in mode 7 and a line of two slots in mode 2
pub record FortySixAndTwo (f : Fields) : Type 0 where
  pub slots : f.slots ≡ 48
  pub words : words f ≡ 7 ∷ 2 ∷ 15 ∷ 15 ∷ []
  pub counts : counts f ≡ 46 ∷ 2 ∷ 0 ∷ 0 ∷ []

-- its slot 48 alone is a dummy slot
abbrev pub OneDummy : Type 0
OneDummy = (f : Fields) → FortySixAndTwo f → (active f 48 ≡ false) × ((slot : ℕ) → 1 ≤ slot → slot < 48 → active f slot ≡ true)

-- with order of change 0 and stream 0 in slot 1, its TMCC data begin 03h DCh 41h 78h 1Eh 00h
abbrev pub DataBegin : Type 0
DataBegin =
    (f : Fields) (bytes : List ℕ) → FortySixAndTwo f → slice_index f.streams 0 ≡ 0 → Bytes bytes → TmccData bytes 48 0 f →
    (slice_index bytes 0 ≡ 0x03) × (slice_index bytes 1 ≡ 0xDC) × (slice_index bytes 2 ≡ 0x41) × (slice_index bytes 3 ≡ 0x78) × (slice_index bytes 4 ≡ 0x1E)
    × (slice_index bytes 5 ≡ 0x00)

-- and its super-frame begins 1Bh 95h 00h 2Ah 49h 4Ch
abbrev pub SuperFrameBegins : Type 0
SuperFrameBegins =
    (f : Fields) (tmcc : List ℕ) (words : ℕ → ℕ → List ℕ) (stream : List ℕ) →
    FortySixAndTwo f → slice_index f.streams 0 ≡ 0 → IsTmccCodeword tmcc 48 0 f → SuperFrame 48 tmcc words stream →
    (slice_index stream 0 ≡ 0x1B) × (slice_index stream 1 ≡ 0x95) × (slice_index stream 2 ≡ 0x00) × (slice_index stream 3 ≡ 0x2A) × (slice_index stream 4 ≡ 0x49)
    × (slice_index stream 5 ≡ 0x4C)

-- mode words 2 and then 7 are refused by 4 at line 2
abbrev pub RisingWords : Type 0
RisingWords =
    (f : Fields) → 1 ≤ f.slots → f.slots ≤ 48 → slice_index (words f) 0 ≡ 2 → slice_index (words f) 1 ≡ 7 →
    First (Passes f) rank (ModeWord 2) × (number (ModeWord 2) ≡ 4)

-- mode word 4 with a count of 6 in line 1, where the mode words are right, is refused by 5 at line 1
abbrev pub BrokenUnit : Type 0
BrokenUnit =
    (f : Fields) → 1 ≤ f.slots → f.slots ≤ 48 → ((line : ℕ) → Passes f (ModeWord line)) → slice_index (words f) 0 ≡ 4 →
    slice_index (counts f) 0 ≡ 6 → First (Passes f) rank (LineCount 1) × (number (LineCount 1) ≡ 5)

-- with the bound 6, six wrong bytes are corrected and seven to ten refused, in a slot word and in a TMCC word
abbrev pub SixErrors : Type 0
SixErrors =
    ((w : List ℕ) (answer : Result (Unit {0}) CodeFault) (after : List ℕ) → Answered 204 Sync 6 w answer after → length w ≡ 204 → AtSix Sync w answer after)
    × ((w : List ℕ) (answer : Result (Unit {0}) CodeFault) (after : List ℕ) → Answered 64 Any 6 w answer after → length w ≡ 64 → AtSix Any w answer after)

-- with one harmed frame mark a head is held, though not exact; with two or more it is not held
abbrev pub HarmedMarks : Type 0
HarmedMarks =
    (slots : ℕ) (stream : List ℕ) (place : ℕ) → Remains slots stream place →
    (whole_up_to slots stream place 8 + 1 ≡ 8 → Held slots stream place × (Exact slots stream place → ⊥))
    × (whole_up_to slots stream place 8 + 2 ≤ 8 → Held slots stream place → ⊥)

-- all of them
pub record KnownResults : Type 0 where
  pub sequence_begins : SequenceBegins
  pub product : Product
  pub taken_from : TakenFrom
  pub address_table : AddressTable
  pub lengths : Lengths
  pub one_dummy : OneDummy
  pub data_begin : DataBegin
  pub super_frame_begins : SuperFrameBegins
  pub rising_words : RisingWords
  pub broken_unit : BrokenUnit
  pub six_errors : SixErrors
  pub harmed_marks : HarmedMarks
