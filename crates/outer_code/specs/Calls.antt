-- What coding and correcting answer, and what they leave in the word. Assumes nothing.
use Rattle.std.specs.Prelude.{◌≡◌, ℕ, ◌<◌, ◌≤◌, List, length, Ok, Err, Result, ◌≢◌}
use Rattle.outer_code.specs.declared.fault.CodeFault.{CodeFault}
use Rattle.outer_code.specs.declared.fault.CodeFault.TheVariants.{Length, Bound, Uncorrectable}
use Rattle.outer_code.specs.Words.{CodedWord, Coded, Corrected, NoneNear}

-- coded exactly if the word has the length of its kind, and else as it was
abbrev pub Encoded : ℕ → ℕ → List ℕ → Result (Unit {0}) CodeFault → List ℕ → Type 0
Encoded size message w (Ok _) after = (length w ≡ size) × Coded message w after
Encoded size message w (Err e) after = (length w ≢ size) × (e ≡ Length) × (after ≡ w)

-- data and word have the lengths of their kind
abbrev pub Sized : ℕ → ℕ → List ℕ → List ℕ → Type 0
Sized size message content w = (length content ≡ message) × (length w ≡ size)

-- exactly then the word becomes the codeword of the data, which is the only one; and else it is as it was
abbrev pub DataEncoded : ℕ → ℕ → List ℕ → List ℕ → Result (Unit {0}) CodeFault → List ℕ → Type 0
DataEncoded size message content w (Ok _) after =
    Sized size message content w × CodedWord size content after × ((other : List ℕ) → CodedWord size content other → other ≡ after)
DataEncoded size message content w (Err e) after = (Sized size message content w → ⊥) × (e ≡ Length) × (after ≡ w)

-- why a word is refused: its length first, then the bound, then that no codeword is near
abbrev pub Refused : ℕ → (ℕ → Type 0) → ℕ → List ℕ → CodeFault → Type 0
Refused size permitted bound w Length = length w ≡ size → ⊥
Refused size permitted bound w Bound = (length w ≡ size) × (8 < bound)
Refused size permitted bound w Uncorrectable = (length w ≡ size) × (bound ≤ 8) × NoneNear permitted bound w

-- corrected, or else refused and as it was
abbrev pub Answered : ℕ → (ℕ → Type 0) → ℕ → List ℕ → Result (Unit {0}) CodeFault → List ℕ → Type 0
Answered size permitted bound w (Ok _) after = (length w ≡ size) × (bound ≤ 8) × Corrected permitted bound w after
Answered size permitted bound w (Err e) after = Refused size permitted bound w e × (after ≡ w)
