-- The listing of a plan file: a text in lines. Assumes nothing.
use Rattle.std.specs.Prelude.{◌≡◌, ℕ, zero, suc, cond, ◌⊎◌, List, [], ◌∷◌, ◌++◌, codes, decimal, ◌==◌, ◌≤◌, Result, IfOk, String, string_bytes}
use Rattle.slot_plan.specs.Faults.{First}
use Rattle.slot_plan.specs.Layout.{word, count, stream, active, mode_word}
use Rattle.slot_plan.specs.Rules.{unused, Valid}
use Rattle.slot_plan.specs.Views.{active_below, role_of}
use Rattle.slot_plan.specs.declared.fields.Fields.{Fields}
use Rattle.slot_plan.specs.declared.slots.Role.{Role}
use Rattle.slot_plan.specs.declared.slots.Role.TheVariants.{Active, Dummy}
use Rattle.plan_formats.specs.Faults.{file_number, file_rank, FilePasses}
use Rattle.plan_formats.specs.Formats.{PlanFile}
use Rattle.plan_formats.specs.declared.fault.FileFault.{FileFault}

-- a line: its words with a space between, and the end of the line
abbrev pub line : List ℕ → List (List ℕ) → List ℕ
line word [] = word ++ codes "\n"
line word (next ∷ words) = word ++ (codes " " ++ line next words)

-- the mark, the version and the number of slots
abbrev pub head_line : ℕ → List ℕ
head_line slots = line (codes "SLP") (codes "1" ∷ decimal slots ∷ [])

-- a used line of a plan: its mode word, how many slots it has, and how many of them are active
abbrev pub mode_line : ℕ → ℕ → List ℕ
mode_line word slots =
    line (codes "M") (decimal word ∷ decimal slots ∷ decimal (active_below word slots) ∷ [])

abbrev pub role_text : Role → List ℕ
role_text Active = codes "A"
role_text Dummy = codes "D"

-- a slot: its number, its mode word, its stream, and whether it is active or a dummy slot
abbrev pub slot_line : ℕ → ℕ → ℕ → Role → List ℕ
slot_line slot word stream role =
    line (codes "S") (decimal slot ∷ decimal word ∷ decimal stream ∷ role_text role ∷ [])

-- the texts that are told of the numbers 1 to n, one after the other
unfoldable pub texts_to : (ℕ → List ℕ) → ℕ → List ℕ
texts_to told zero = []
texts_to told (suc n) = texts_to told n ++ told (suc n)

-- At each number from 1 to last, what is given, if anything, is the text that is told.
abbrev pub Tells : {Z E : Type 0} → (ℕ → Result (String Z) E → Type 0) → (ℕ → List ℕ) → ℕ → Type 0
Tells {Z} {E} gives told last =
    (number : ℕ) (r : Result (String Z) E) → 1 ≤ number → number ≤ last → gives number r → IfOk r (λ s. string_bytes s ≡ told number)

-- the line for a line of a plan, if that is used
abbrev pub line_text : Fields → ℕ → List ℕ
line_text f number = cond (word f number == unused) [] (mode_line (word f number) (count f number))

-- the lines for the lines 1 to n
abbrev pub mode_lines : Fields → ℕ → List ℕ
mode_lines f n = texts_to (line_text f) n

-- the line for a slot
abbrev pub slot_text : Fields → ℕ → List ℕ
slot_text f slot = slot_line slot (mode_word f slot) (stream f slot) (role_of (active f slot))

-- the lines for the slots 1 to n
abbrev pub slot_lines : Fields → ℕ → List ℕ
slot_lines f n = texts_to (slot_text f) n

-- the listing of a plan
abbrev pub listing : Fields → List ℕ
listing f = head_line f.slots ++ (mode_lines f 4 ++ slot_lines f f.slots)

-- the listing of a file that is refused
abbrev pub refusal : ℕ → List ℕ
refusal number = line (codes "REFUSED") (decimal number ∷ [])

-- The text lists the plan that the file states; or it tells the number of the first check that the file fails.
abbrev pub Lists : List ℕ → List ℕ → Type 0
Lists file text =
    ((f : Fields) × PlanFile file f × ∥ Valid f ∥₁ × (text ≡ listing f))
    ⊎ ((e : FileFault) × First (FilePasses file) file_rank e × (text ≡ refusal (file_number e)))
