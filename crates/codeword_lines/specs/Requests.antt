-- Lines that are requests. Assumes nothing.
use Rattle.std.specs.Prelude.{◌≡◌, ℕ, min, List, [], ◌∷◌, ◌++◌}
use Rattle.codeword_lines.specs.Decimals.{Decimal, number_from}
use Rattle.codeword_lines.specs.declared.request.Kind.{Kind}
use Rattle.codeword_lines.specs.declared.request.Kind.TheVariants.{Slot, Tmcc}
use Rattle.codeword_lines.specs.declared.request.Task.{Task}
use Rattle.codeword_lines.specs.declared.request.Task.TheVariants.{Encode, Correct}
use Rattle.hexadecimal.specs.Hex.{Hex}
use Rattle.outer_code.specs.Faults.{number}
use Rattle.outer_code.specs.declared.fault.CodeFault.{CodeFault}

-- the words slot and tmcc, with a space on either side
abbrev pub name : Kind → List ℕ
name Slot = 32 ∷ 115 ∷ 108 ∷ 111 ∷ 116 ∷ 32 ∷ []
name Tmcc = 32 ∷ 116 ∷ 109 ∷ 99 ∷ 99 ∷ 32 ∷ []

-- the number of a refusal: a slot word that cannot be corrected is refused by 16, a TMCC word by 14
abbrev pub refusal_number : Kind → CodeFault → ℕ
refusal_number Slot fault = number 16 fault
refusal_number Tmcc fault = number 14 fault

-- the line asks for the task on the bytes that the hexadecimal digits write:
-- E, kind and digits to code them, C, kind, bound and digits to correct them; a bound above 255 counts as 255
abbrev pub Asks : List ℕ → Kind → Task → List ℕ → Type 0
Asks line kind Encode text = (line ≡ 69 ∷ (name kind ++ text)) × Hex text
Asks line kind (Correct bound) text =
    (digits : List ℕ) × (line ≡ 67 ∷ (name kind ++ (digits ++ (32 ∷ text)))) × Decimal digits × (bound ≡ min (number_from 0 digits) 255) × Hex text
