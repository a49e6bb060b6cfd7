-- What making, loading and installing do. Assumes nothing.
use Rattle.std.specs.Prelude.{◌≡◌, ℕ, ◌+◌, ◌%◌, ◌≤◌, Ok, Err, Result, ◌≢◌}
use Rattle.slot_plan.specs.declared.fields.Fields.{Fields}
use Rattle.modulator.specs.Fills.{Has}
use Rattle.modulator.specs.declared.fault.ModulatorFault.{ModulatorFault}
use Rattle.modulator.specs.declared.fault.ModulatorFault.TheVariants.{Slots, Frame}
use Rattle.modulator.specs.declared.state.Bare.{Bare}
use Rattle.modulator.specs.declared.state.Loaded.{Loaded}
use Rattle.modulator.specs.declared.state.Unloaded.{Unloaded}

-- a bare modulator is made for frames of 1 to 48 slots
abbrev pub Made : ℕ → Result Bare ModulatorFault → Type 0
Made slots (Ok bare) = (1 ≤ slots) × (slots ≤ 48) × (bare.slots ≡ slots)
Made slots (Err fault) = ((1 ≤ slots) × (slots ≤ 48) → ⊥) × (fault ≡ Slots)

-- A plan for its frame loads it, with order of change 0. A plan for another frame is refused, and the bare modulator comes back.
abbrev pub Load : Bare → Fields → Result Loaded Unloaded → Type 0
Load bare p (Ok m) = (p.slots ≡ bare.slots) × Has m 0 p
Load bare p (Err e) = (p.slots ≢ bare.slots) × (e.fault ≡ Frame) × (e.bare ≡ bare)

-- A plan for the same frame takes the place of the one before, even of an equal one, and the order of change goes on by 1, from 31 to 0.
-- A plan for another frame is refused and alters nothing.
abbrev pub Install : Loaded → Fields → Result (Unit {0}) ModulatorFault → Loaded → Type 0
Install m p (Ok _) after = (p.slots ≡ m.kept.slots) × Has after ((m.order.value + 1) % 32) p
Install m p (Err fault) after = (p.slots ≢ m.kept.slots) × (fault ≡ Frame) × (after ≡ m)
