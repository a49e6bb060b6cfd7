-- Which plan is on air, and with which order of change. Assumes nothing.
use Rattle.std.specs.Prelude.{◌≡◌, ℕ, zero, suc, ◌+◌, ◌%◌, cond, List, Ok, Err, Result, fold, ◌==◌}
use Rattle.slot_plan.specs.Faults.{First}
use Rattle.slot_plan.specs.declared.fields.Fields.{Fields}
use Rattle.plan_formats.specs.Faults.{file_number, file_rank, FilePasses}
use Rattle.plan_formats.specs.Formats.{PlanFile}
use Rattle.plan_formats.specs.declared.fault.FileFault.{FileFault}
use Rattle.transmission.specs.declared.event.Event.{Event}
use Rattle.transmission.specs.declared.event.Event.TheVariants as event
use Rattle.run_inputs.specs.declared.change.Change.{Change}
use Rattle.slot_plan.specs.declared.plan.Plan.{Plan}

-- what a plan file states: its plan, or the number of the first check that it fails
abbrev pub States : List ℕ → Result Plan ℕ → Type 0
States file (Ok plan) = PlanFile file plan.fields
States file (Err number) = (e : FileFault) × First (FilePasses file) file_rank e × (number ≡ file_number e)

-- a plan with its order of change
pub record OnAir : Type 0 where
  pub order : ℕ
  pub plan : Fields

-- after a load
abbrev pub loaded : Fields → OnAir
loaded p = record { order = 0; plan = p }

-- After an install: a plan for the same frame takes the place of the one before, and the order of change goes on by 1, from 31 to 0.
-- A plan for another frame, or none, leaves what is on air.
abbrev pub installed : OnAir → Result Plan ℕ → OnAir
installed a (Ok plan) =
    cond (plan.fields.slots == a.plan.slots) (record { order = (a.order + 1) % 32; plan = plan.fields }) a
installed a (Err number) = a

-- what is told of an install before a super-frame
abbrev pub install_told : ℕ → OnAir → Result Plan ℕ → Event
install_told number a (Ok plan) =
    cond (plan.fields.slots == a.plan.slots) (event.Installed number ((a.order + 1) % 32)) (event.Refused number 10)
install_told number a (Err refusal) = event.Refused number refusal

-- after one of the installs of a run, of which those that come before super-frame n count
abbrev pub after_install : ℕ → OnAir → Change (Result Plan ℕ) → OnAir
after_install n a next = cond (next.at == n) (installed a next.plan) a

-- after all that come before super-frame n, in their order
unfoldable pub due : ℕ → List (Change (Result Plan ℕ)) → OnAir → OnAir
due n installs a = fold (after_install n) a installs

-- in super-frame n, counted from 1; at 0 what was loaded
unfoldable pub on_air : Fields → List (Change (Result Plan ℕ)) → ℕ → OnAir
on_air p installs zero = loaded p
on_air p installs (suc n) = due (suc n) installs (on_air p installs n)
