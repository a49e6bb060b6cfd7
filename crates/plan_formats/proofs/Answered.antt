-- What reading a plan answers, from what its parts answer. Assumes nothing.
use Rattle.std.proofs.Common.{ℕ, ◌<◌, List, subst}
use Rattle.slot_plan.specs.Faults.{First, rank}
use Rattle.slot_plan.specs.Rules.{Passes}
use Rattle.slot_plan.specs.declared.fault.PlanFault.{PlanFault}
use Rattle.slot_plan.specs.declared.fields.Fields.{Fields}
use Rattle.plan_formats.specs.Faults.{FilePasses, file_rank}
use Rattle.plan_formats.specs.Formats.{PlanFile}
use Rattle.plan_formats.specs.declared.fault.FileFault.{FileFault}
use Rattle.plan_formats.specs.declared.fault.FileFault.TheVariants.{Mark, Version, Size, Rule}
use Rattle.plan_formats.proofs.Recovered.{plan_file_same}

module _ (file : List ℕ) (f : Fields) (p : PlanFile file f)
    (mark : FilePasses file Mark) (version : FilePasses file Version) (size : FilePasses file Size) where
  -- what the one plan of a file passes, the file passes
  rule_passes : (e : PlanFault) → Passes f e → FilePasses file (Rule e)
  rule_passes e pass g q = subst (λ (h : Fields). Passes h e) (plan_file_same file f g p q) pass

  before : (e : PlanFault) → First (Passes f) rank e → (d : FileFault) → file_rank d < rank e → FilePasses file d
  before e first Mark h = mark
  before e first Version h = version
  before e first Size h = size
  before e first (Rule d) h = rule_passes d (first.first d h)

  pub rule_first : (e : PlanFault) → First (Passes f) rank e → First (FilePasses file) file_rank (Rule e)
  rule_first e first = record { fails = λ all. first.fails (all f p); first = before e first }
