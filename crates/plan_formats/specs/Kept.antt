-- A plan packed for keeping: the bits of its TMCC data, with order of change 0, in six numbers of 64 bits. Assumes nothing.
use Rattle.std.specs.Prelude.{◌≡◌, ℕ, ◌^◌, ◌<◌, List, length, slice_index}
use Rattle.slot_plan.specs.Layout.{Shaped}
use Rattle.slot_plan.specs.Rules.{Valid}
use Rattle.slot_plan.specs.declared.fields.Fields.{Fields}
use Rattle.plan_formats.specs.Bits.{joined, Fit}
use Rattle.plan_formats.specs.Body.{numbers}
use Rattle.plan_formats.specs.Formats.{tmcc_fields}

-- the packed numbers and the number of slots keep these fields
pub record Keeps (slots : ℕ) (packed : List ℕ) (f : Fields) : Type 0 where
  pub shaped : Shaped f
  pub frame : f.slots ≡ slots
  pub bits : joined 0 (numbers 64 packed) ≡ joined 0 (tmcc_fields 0 f)
  pub fits : Fit (tmcc_fields 0 f)

-- they keep some plan
abbrev pub KeepsSome : ℕ → List ℕ → Type 0
KeepsSome slots packed = (length packed ≡ 6) × ((k : ℕ) → slice_index packed k < 2 ^ 64) × ((f : Fields) × Keeps slots packed f × Valid f)
