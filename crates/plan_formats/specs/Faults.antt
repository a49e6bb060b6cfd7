-- The refusals of a plan file: their numbers, and their ranks. Assumes nothing.
use Rattle.std.specs.Prelude.{◌≡◌, ℕ, ◌+◌, ◌*◌, ◌≤◌, List, length, slice_index, Option, None, unwrap_or}
use Rattle.slot_plan.specs.Faults as plan
use Rattle.slot_plan.specs.Rules.{Passes}
use Rattle.slot_plan.specs.declared.fields.Fields.{Fields}
use Rattle.plan_formats.specs.Formats.{PlanFile}
use Rattle.plan_formats.specs.declared.fault.FileFault.{FileFault}
use Rattle.plan_formats.specs.declared.fault.FileFault.TheVariants.{Mark, Version, Size, Rule}

abbrev pub file_number : FileFault → ℕ
file_number Mark = 1
file_number Version = 2
file_number Size = 3
file_number (Rule fault) = plan.number fault

-- the line or the slot at fault, if it is a single one
abbrev pub file_at_fault : FileFault → Option ℕ
file_at_fault Mark = None
file_at_fault Version = None
file_at_fault Size = None
file_at_fault (Rule fault) = plan.at_fault fault

-- the line or the slot at fault, 0 where it is no single one
abbrev pub file_place : FileFault → ℕ
file_place fault = unwrap_or (file_at_fault fault) 0

-- the rank of a check: checks go by number, and those of the plan itself come last, by their own ranks
abbrev pub file_rank : FileFault → ℕ
file_rank Mark = 100
file_rank Version = 200
file_rank Size = 299
file_rank (Rule fault) = plan.rank fault

-- The check that a refusal stands for passes. The mark is SLP; the number of slots is the sixth byte.
abbrev pub FilePasses : List ℕ → FileFault → Type 0
FilePasses file Mark =
    (6 ≤ length file) × (slice_index file 0 ≡ 0x53) × (slice_index file 1 ≡ 0x4C) × (slice_index file 2 ≡ 0x50)
FilePasses file Version = slice_index file 3 * 256 + slice_index file 4 ≡ 1
FilePasses file Size = (1 ≤ slice_index file 5) × (slice_index file 5 ≤ 48) × (length file ≡ 39 + slice_index file 5)
FilePasses file (Rule fault) = (f : Fields) → PlanFile file f → Passes f fault
