-- What the check of a slot plan file answers. Assumes nothing.
use Rattle.std.specs.Prelude.{◌≡◌, ℕ, ◌⊎◌, List}
use Rattle.slot_plan.specs.Faults.{First}
use Rattle.slot_plan.specs.Rules.{Valid}
use Rattle.slot_plan.specs.declared.fields.Fields.{Fields}
use Rattle.plan_formats.specs.Faults.{file_number, file_rank, FilePasses}
use Rattle.plan_formats.specs.Formats.{PlanFile}
use Rattle.plan_formats.specs.declared.fault.FileFault.{FileFault}

-- 0, and the file is that of a plan; or the number of the first check that the file fails
abbrev pub Checked : List ℕ → ℕ → Type 0
Checked file r =
    ((r ≡ 0) × ((f : Fields) × PlanFile file f × ∥ Valid f ∥₁))
    ⊎ ((e : FileFault) × (r ≡ file_number e) × First (FilePasses file) file_rank e)
