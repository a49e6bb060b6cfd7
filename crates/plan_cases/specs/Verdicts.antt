-- What the library says of a plan file or of TMCC data. Assumes nothing.
use Rattle.std.specs.Prelude.{◌≡◌, ℕ, ◌<◌, ◌⊎◌, List, codes, Option, None, Some, Result, Ok, Err}
use Rattle.std.specs.Str.Parse.{digits_value, without_leading_plus}
use Rattle.slot_plan.specs.Faults.{First, number, at_fault}
use Rattle.slot_plan.specs.Rules.{Valid}
use Rattle.slot_plan.specs.declared.fault.PlanFault.{PlanFault}
use Rattle.slot_plan.specs.declared.fields.Fields.{Fields}
use Rattle.plan_formats.specs.Faults.{file_at_fault, file_number, file_rank, FilePasses}
use Rattle.plan_formats.specs.Formats.{PlanFile, TmccData}
use Rattle.plan_formats.specs.declared.fault.FileFault.{FileFault}
use Rattle.plan_cases.specs.declared.verdict.Refusal.{Refusal}

-- the refusal of numbers that make no plan
abbrev pub plan_refusal : PlanFault → Refusal
plan_refusal fault = record { number = number fault; place = at_fault fault }

-- the refusal of a file: the checks of the head are of no line and no slot
abbrev pub file_refusal : FileFault → Refusal
file_refusal fault = record { number = file_number fault; place = file_at_fault fault }

-- a verdict holds of a file: it is the file of a plan, or the check of that number and place is the first that it fails
abbrev pub HoldsOf : List ℕ → Result (Unit {0}) Refusal → Type 0
HoldsOf file (Ok _) = (f : Fields) × PlanFile file f × ∥ Valid f ∥₁
HoldsOf file (Err refusal) = (e : FileFault) × First (FilePasses file) file_rank e × (file_refusal e ≡ refusal)

-- the number that a text tells
abbrev pub told : List ℕ → ℕ
told text = digits_value 10 (without_leading_plus text)

-- a line or a slot as a case tells it, by - or 0 where it is no single one
abbrev pub ToldPlace : List ℕ → Option ℕ → Type 0
ToldPlace text None = (text ≡ codes "-") ⊎ (told text ≡ 0)
ToldPlace text (Some at) = (0 < at) × (at ≡ told text)

-- the data bytes are the TMCC data of the plan in a file and of an order of change
abbrev pub States : List ℕ → ℕ → List ℕ → Type 0
States file order bytes = (f : Fields) × PlanFile file f × TmccData bytes f.slots order f
