-- What reading and writing a plan answer. Assumes nothing.
use Rattle.std.specs.Prelude.{◌≡◌, ℕ, List, Result, MatchResult}
use Rattle.slot_plan.specs.Faults.{First, rank}
use Rattle.slot_plan.specs.Rules.{Passes}
use Rattle.slot_plan.specs.declared.fault.PlanFault.{PlanFault}
use Rattle.slot_plan.specs.declared.fields.Fields.{Fields}
use Rattle.slot_plan.specs.declared.plan.Plan.{Plan}
use Rattle.plan_formats.specs.Faults.{FilePasses, file_rank}
use Rattle.plan_formats.specs.Formats.{PlanFile, TmccData, Bytes}
use Rattle.plan_formats.specs.declared.fault.FileFault.{FileFault}
use Rattle.plan_formats.specs.declared.tmcc.Tmcc.{Tmcc}

-- a file is the plan file of the plan that is answered, or it fails the check that is answered and none before it
abbrev pub Read : List ℕ → Result Plan FileFault → Type 0
Read file r = MatchResult r (λ plan. PlanFile file plan.fields) (λ fault. First (FilePasses file) file_rank fault)

-- whoever reads the file gets these fields
abbrev pub FileReadsBack : List ℕ → Fields → Type 0
FileReadsBack file f = (r : Result Plan FileFault) → Read file r → MatchResult r (λ plan. plan.fields ≡ f) (λ _. ⊥)

-- the fields have no other file
abbrev pub OnlyFile : List ℕ → Fields → Type 0
OnlyFile file f = (other : List ℕ) → Bytes other → PlanFile other f → other ≡ file

-- TMCC data state an order of change and fields for a frame of so many slots: these are the answer, or the first check that the fields fail
pub record Unpacked (bytes : List ℕ) (slots : ℕ) (r : Result Tmcc PlanFault) : Type 0 where
  pub order : ℕ
  pub fields : Fields
  pub states : TmccData bytes slots order fields
  pub answer :
      MatchResult r (λ t. (t.order.value ≡ order) × (t.plan.fields ≡ fields)) (λ fault. First (Passes fields) rank fault)

-- whoever reads the TMCC data for that frame gets this order of change and these fields
abbrev pub TmccReadsBack : List ℕ → ℕ → Fields → Type 0
TmccReadsBack bytes order f =
    (r : Result Tmcc PlanFault) → Unpacked bytes f.slots r →
    MatchResult r (λ t. (t.order.value ≡ order) × (t.plan.fields ≡ f)) (λ _. ⊥)

-- the order of change and the fields have no other TMCC data
abbrev pub OnlyData : List ℕ → ℕ → Fields → Type 0
OnlyData bytes order f = (other : List ℕ) → Bytes other → TmccData other f.slots order f → other ≡ bytes
