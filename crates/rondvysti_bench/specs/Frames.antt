-- What the calls on whole super-frames answer, as numbers. Assumes nothing.
use Rattle.std.specs.Prelude.{◌≡◌, ℕ, ◌⊎◌, List}
use Rattle.slot_plan.specs.Faults.{First}
use Rattle.slot_plan.specs.declared.fields.Fields.{Fields}
use Rattle.plan_formats.specs.Faults.{file_number, file_rank, FilePasses}
use Rattle.plan_formats.specs.Formats.{PlanFile}
use Rattle.plan_formats.specs.declared.fault.FileFault.{FileFault}
use Rattle.super_frame.specs.Carried.{Fits, Written}
use Rattle.super_frame.specs.Reads.{Lengths, Read}
use Rattle.tmcc_word.specs.Words.{IsTmccWord}

-- the file fails a check first, by its number
abbrev pub FileRefused : List ℕ → ℕ → Type 0
FileRefused file r = (fault : FileFault) × (r ≡ file_number fault) × First (FilePasses file) file_rank fault

-- 0, and the super-frame of the plan with order of change 0 is written; or 8 for a wrong length, and the buffer is as it was
abbrev pub WrittenOr : Fields → List ℕ → List ℕ → ℕ → List ℕ → Type 0
WrittenOr f packets before r out =
    ((r ≡ 0) × Fits f packets before × ((tmcc : List ℕ) × IsTmccWord tmcc 0 f × Written f tmcc packets out))
    ⊎ ((r ≡ 8) × (Fits f packets before → ⊥) × (out ≡ before))

-- the same of the plan of a file, or the file is refused and the buffer is as it was
abbrev pub WrittenAs : List ℕ → List ℕ → List ℕ → ℕ → List ℕ → Type 0
WrittenAs file packets before r out =
    ((f : Fields) × PlanFile file f × WrittenOr f packets before r out) ⊎ (FileRefused file r × (out ≡ before))

-- 0, and the words are read; or 8 for a wrong length, and the words are as they were
abbrev pub ReadAs : ℕ → List ℕ → List ℕ → ℕ → List ℕ → Type 0
ReadAs slots stream before r words =
    ((r ≡ 0) × Lengths slots stream before × ((tmcc : List ℕ) × Read slots stream tmcc words))
    ⊎ ((r ≡ 8) × (Lengths slots stream before → ⊥) × (words ≡ before))
