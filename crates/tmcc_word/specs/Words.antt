-- The TMCC word. Assumes nothing.
use Rattle.std.specs.Prelude.{◌≡◌, ℕ, List, length, take}
use Rattle.slot_plan.specs.declared.fields.Fields.{Fields}
use Rattle.plan_formats.specs.Formats.{TmccData, Bytes}
use Rattle.code_theory.specs.Codeword.{Codeword}
use Rattle.outer_code.specs.Words.{CodedWord}

-- the codeword of 64 bytes that has the TMCC data of an order of change and a plan's fields
pub record IsTmccWord (word : List ℕ) (order : ℕ) (f : Fields) : Type 0 where
  pub content : List ℕ
  pub states : TmccData content f.slots order f
  pub coded : CodedWord 64 content word

-- 64 bytes are the TMCC word of an order of change and a plan's fields: a codeword, of which the first 48 bytes are their TMCC data
pub record IsTmccCodeword (word : List ℕ) (slots order : ℕ) (f : Fields) : Type 0 where
  pub size : length word ≡ 64
  pub bytes : Bytes word
  pub codeword : Codeword word
  pub states : TmccData (take 48 word) slots order f
