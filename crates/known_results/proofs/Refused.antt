-- Two plans that are refused. Assumes nothing.
use Rattle.std.proofs.Common.{◌≡◌, ℕ, zero, suc, ◌%◌, ◌<◌, ◌≤◌, ◌≢◌, get_or, refl, arith}
use Rattle.slot_plan.specs.Faults.{rank}
use Rattle.slot_plan.specs.Layout.{words, counts}
use Rattle.slot_plan.specs.Modes.{unit}
use Rattle.slot_plan.specs.Rules.{Passes, unused}
use Rattle.slot_plan.specs.declared.fault.PlanFault.{PlanFault}
use Rattle.slot_plan.specs.declared.fault.PlanFault.TheVariants.{SlotCount, ModeWord, LineCount, CountSum, SlotStream, SpareBits}
use Rattle.slot_plan.specs.declared.fields.Fields.{Fields}
use Rattle.known_results.specs.Known.{RisingWords, BrokenUnit}

module _ (f : Fields) (low : 1 ≤ f.slots) (high : f.slots ≤ 48) (one : get_or (words f) 0 0 ≡ 2) (two : get_or (words f) 1 0 ≡ 7) where
  first_line : Passes f (ModeWord 1)
  first_line l h used = (omega (arith, one), omega (arith, one), λ earlier a b. absurd (omega (arith, a, b)))

  before_second : (e : PlanFault) → rank e < 402 → Passes f e
  before_second SlotCount h = (low, high)
  before_second (ModeWord zero) h = λ a. absurd (omega (arith, a))
  before_second (ModeWord (suc zero)) h = first_line
  before_second (ModeWord (suc (suc line))) h = absurd (omega (arith, h))
  before_second (LineCount line) h = absurd (omega (arith, h))
  before_second CountSum h = absurd (omega (arith, h))
  before_second (SlotStream slot) h = absurd (omega (arith, h))
  before_second SpareBits h = absurd (omega (arith, h))

  second_fails : Passes f (ModeWord 2) → ⊥
  second_fails pass =
      let used : get_or (words f) 1 0 ≢ unused = λ e. omega (arith, e, two) in
      let falls = ((pass (omega arith) (omega arith) used).2 1 (omega arith) (omega arith)).0 in
      omega (arith, falls, one, two)

pub rising_words : RisingWords
rising_words f low high one two = (record { fails = second_fails f low high one two; first = before_second f low high one two }, refl)

module _ (f : Fields) (low : 1 ≤ f.slots) (high : f.slots ≤ 48) (modes : (line : ℕ) → Passes f (ModeWord line))
    (word : get_or (words f) 0 0 ≡ 4) (count : get_or (counts f) 0 0 ≡ 6) where
  before_counts : (e : PlanFault) → rank e < 501 → Passes f e
  before_counts SlotCount h = (low, high)
  before_counts (ModeWord line) h = modes line
  before_counts (LineCount zero) h = λ a. absurd (omega (arith, a))
  before_counts (LineCount (suc line)) h = absurd (omega (arith, h))
  before_counts CountSum h = absurd (omega (arith, h))
  before_counts (SlotStream slot) h = absurd (omega (arith, h))
  before_counts SpareBits h = absurd (omega (arith, h))

  count_fails : Passes f (LineCount 1) → ⊥
  count_fails pass =
      let used : get_or (words f) 0 0 ≢ unused = λ e. omega (arith, e, word) in
      let whole : get_or (counts f) 0 0 % unit (get_or (words f) 0 0) ≡ 0 = ((pass (omega arith) (omega arith)).1 used).1 in
      let left : ◌≡◌ {A = ℕ} 2 0 = rw (count, word) at whole in
      omega (arith, left)

pub broken_unit : BrokenUnit
broken_unit f low high modes word count = (record { fails = count_fails f low high modes word count; first = before_counts f low high modes word count }, refl)
