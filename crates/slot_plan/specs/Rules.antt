-- The rules of a slot plan. Assumes nothing.
use Rattle.std.specs.Prelude.{◌≡◌, ℕ, ◌+◌, ◌%◌, ◌^◌, ◌<◌, ◌≤◌, true, false, ◌≢◌}
use Rattle.slot_plan.specs.Modes.{unit}
use Rattle.slot_plan.specs.Layout.{word, count, stream, ts_id, active}
use Rattle.slot_plan.specs.declared.fault.PlanFault.{PlanFault}
use Rattle.slot_plan.specs.declared.fault.PlanFault.TheVariants.{SlotCount, ModeWord, LineCount, CountSum, SlotStream, SpareBits}
use Rattle.slot_plan.specs.declared.fields.Fields.{Fields}

-- the mode word of an unused line
abbrev pub unused : ℕ
unused = 15

-- A used line has a mode word of 1 to 7, and each line before it is used too and has a greater one.
abbrev pub ModeRule : Fields → ℕ → Type 0
ModeRule f line =
    word f line ≢ unused →
    (1 ≤ word f line) × (word f line ≤ 7)
    × ((earlier : ℕ) → 1 ≤ earlier → earlier < line → (word f line < word f earlier) × (word f earlier ≤ 7))

-- A used line has some slots, whole units of its mode; an unused line has none.
abbrev pub CountRule : Fields → ℕ → Type 0
CountRule f line =
    (word f line ≡ unused → count f line ≡ 0)
    × (word f line ≢ unused → (0 < count f line) × (count f line % unit (word f line) ≡ 0))

-- The lines take the whole frame.
abbrev pub SumRule : Fields → Type 0
SumRule f = count f 1 + count f 2 + count f 3 + count f 4 ≡ f.slots

-- a slot is the last active one before a later slot
abbrev pub LastActiveBefore : Fields → ℕ → ℕ → Type 0
LastActiveBefore f slot later =
    (active f slot ≡ true) × ((between : ℕ) → slot < between → between < later → active f between ≡ false)

-- A dummy slot has the stream number of the last active slot before it.
abbrev pub DummyRule : Fields → ℕ → Type 0
DummyRule f slot =
    active f slot ≡ false →
    (last : ℕ) → 1 ≤ last → last < slot → LastActiveBefore f last slot → stream f slot ≡ stream f last

-- An active slot of another stream than an active slot before it has another TS_ID.
abbrev pub TsIdRule : Fields → ℕ → Type 0
TsIdRule f slot =
    active f slot ≡ true →
    (earlier : ℕ) → 1 ≤ earlier → earlier < slot → active f earlier ≡ true →
    stream f earlier ≢ stream f slot → ts_id f (stream f earlier) ≢ ts_id f (stream f slot)

-- The stream numbers of the frame's slots are 0 to 7 and keep both rules above; beyond the frame they are 0.
abbrev pub StreamRule : Fields → ℕ → Type 0
StreamRule f slot =
    (slot ≤ f.slots → (stream f slot ≤ 7) × DummyRule f slot × TsIdRule f slot)
    × (f.slots < slot → stream f slot ≡ 0)

-- The check that a refusal stands for passes.
abbrev pub Passes : Fields → PlanFault → Type 0
Passes f SlotCount = (1 ≤ f.slots) × (f.slots ≤ 48)
Passes f (ModeWord line) = 1 ≤ line → line ≤ 4 → ModeRule f line
Passes f (LineCount line) = 1 ≤ line → line ≤ 4 → CountRule f line
Passes f CountSum = SumRule f
Passes f (SlotStream slot) = 1 ≤ slot → slot ≤ 48 → StreamRule f slot
Passes f SpareBits = (f.control < 2 ^ 5) × (f.expanded < 2 ^ 62)

-- The fields are those of a plan: every check passes.
abbrev pub Valid : Fields → Type 0
Valid f = (fault : PlanFault) → Passes f fault
