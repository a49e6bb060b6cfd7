-- The refusals of a plan: their numbers, their places, and their ranks. Assumes nothing.
use Rattle.std.specs.Prelude.{ℕ, ◌+◌, ◌<◌, Option, Some, None, unwrap_or}
use Rattle.slot_plan.specs.declared.fault.PlanFault.{PlanFault}
use Rattle.slot_plan.specs.declared.fault.PlanFault.TheVariants.{SlotCount, ModeWord, LineCount, CountSum, SlotStream, SpareBits}

abbrev pub number : PlanFault → ℕ
number SlotCount = 3
number (ModeWord line) = 4
number (LineCount line) = 5
number CountSum = 5
number (SlotStream slot) = 6
number SpareBits = 7

-- the line or the slot at fault, if it is a single one
abbrev pub at_fault : PlanFault → Option ℕ
at_fault SlotCount = None
at_fault (ModeWord line) = Some line
at_fault (LineCount line) = Some line
at_fault CountSum = None
at_fault (SlotStream slot) = Some slot
at_fault SpareBits = None

-- the line or the slot at fault, 0 where it is no single one
abbrev pub place : PlanFault → ℕ
place fault = unwrap_or (at_fault fault) 0

-- The rank of a check: those of a lower rank come before it. Checks go by number, and under one number by place; the sum of the
-- counts comes after the four lines.
abbrev pub rank : PlanFault → ℕ
rank SlotCount = 300
rank (ModeWord line) = 400 + line
rank (LineCount line) = 500 + line
rank CountSum = 599
rank (SlotStream slot) = 600 + slot
rank SpareBits = 700

-- Of some checks, each of which either passes or not, and which have these ranks: e is the first that does not pass
pub record First {F : Type 0} (Passes : F → Type 0) (rank : F → ℕ) (e : F) : Type 0 where
  pub fails : Passes e → ⊥
  pub first : (f : F) → rank f < rank e → Passes f
