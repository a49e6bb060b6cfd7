-- That every check passes: made from the checks one by one, and taken from a plan. Assumes nothing.
use Rattle.std.proofs.Common.{ℕ, ◌<◌, ◌≤◌, arith}
use mathlib.Core.Logic.{∥∥₁_elim}
use mathlib.Core.HLevel.{Π_prop, ×_prop, ×₃_prop}
use denote.Struct.Props.{props}
use Rattle.slot_plan.specs.Faults.{First, rank}
use Rattle.slot_plan.specs.Rules.{Passes, Valid, ModeRule, CountRule, StreamRule, DummyRule, TsIdRule}
use Rattle.slot_plan.specs.declared.fault.PlanFault.{PlanFault}
use Rattle.slot_plan.specs.declared.fault.PlanFault.TheVariants.{SlotCount, ModeWord, LineCount, CountSum, SlotStream, SpareBits}
use Rattle.slot_plan.specs.declared.fields.Fields.{Fields}
use Rattle.slot_plan.specs.declared.plan.Plan.{Plan}

module _ (f : Fields)
    (frame : Passes f SlotCount)
    (modes : (line : ℕ) → 1 ≤ line → line ≤ 4 → ModeRule f line)
    (counts : (line : ℕ) → 1 ≤ line → line ≤ 4 → CountRule f line)
    (sum : Passes f CountSum)
    (streams : (slot : ℕ) → 1 ≤ slot → slot ≤ 48 → StreamRule f slot) where
  pub valid_from : Passes f SpareBits → Valid f
  valid_from spare SlotCount = frame
  valid_from spare (ModeWord line) = modes line
  valid_from spare (LineCount line) = counts line
  valid_from spare CountSum = sum
  valid_from spare (SlotStream slot) = streams slot
  valid_from spare SpareBits = spare

  before_spare : (fault : PlanFault) → rank fault < rank SpareBits → Passes f fault
  before_spare SlotCount h = frame
  before_spare (ModeWord line) h = modes line
  before_spare (LineCount line) h = counts line
  before_spare CountSum h = sum
  before_spare (SlotStream slot) h = streams slot
  before_spare SpareBits h = absurd (omega (arith, h))

  pub spare_first : (Passes f SpareBits → ⊥) → First (Passes f) rank SpareBits
  spare_first no-spare = record { fails = no-spare; first = before_spare }

mode_prop : (f : Fields) (line : ℕ) → Prim.IsProp (ModeRule f line)
mode_prop f line = Π_prop (λ used. hlevel props)

count_prop : (f : Fields) (line : ℕ) → Prim.IsProp (CountRule f line)
count_prop f line = hlevel props

dummy_prop : (f : Fields) (slot : ℕ) → Prim.IsProp (DummyRule f slot)
dummy_prop f slot = Π_prop (λ d. Π_prop (λ l. Π_prop (λ a. Π_prop (λ b. Π_prop (λ n. hlevel props)))))

ts_id_prop : (f : Fields) (slot : ℕ) → Prim.IsProp (TsIdRule f slot)
ts_id_prop f slot = Π_prop (λ a. Π_prop (λ e. Π_prop (λ b. Π_prop (λ c. Π_prop (λ d. Π_prop (λ n. hlevel props))))))

passes_prop : (f : Fields) (fault : PlanFault) → Prim.IsProp (Passes f fault)
passes_prop f SlotCount = hlevel props
passes_prop f (ModeWord line) = Π_prop (λ low. Π_prop (λ high. mode_prop f line))
passes_prop f (LineCount line) = Π_prop (λ low. Π_prop (λ high. count_prop f line))
passes_prop f CountSum = hlevel props
passes_prop f (SlotStream slot) =
    Π_prop (λ low. Π_prop (λ high. ×_prop (Π_prop (λ h. ×₃_prop (hlevel props) (dummy_prop f slot) (ts_id_prop f slot))) (hlevel props)))
passes_prop f SpareBits = hlevel props

pub plan_valid : (p : Plan) → Valid p.fields
plan_valid p = ∥∥₁_elim p.valid (Π_prop (passes_prop p.fields)) (λ v. v)
