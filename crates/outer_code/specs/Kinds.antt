-- The two kinds of word. Assumes nothing.
use Rattle.std.specs.Prelude.{◌≡◌, ℕ, List, Result}
use Rattle.outer_code.specs.declared.fault.CodeFault.{CodeFault}
use Rattle.outer_code.specs.Calls.{Encoded}
use Rattle.outer_code.specs.Results.{Correction}

-- a slot word begins with the sync byte
abbrev pub Sync : ℕ → Type 0
Sync b = b ≡ 0x47

-- a TMCC word begins with any byte
abbrev pub Any : ℕ → Type 0
Any b = Unit {0}

-- what coding a slot word, and correcting one, answer and leave
abbrev pub SlotEncoded : List ℕ → Result (Unit {0}) CodeFault → List ℕ → Type 0
SlotEncoded w answer after = Encoded 204 188 w answer after

abbrev pub SlotCorrected : ℕ → List ℕ → Result (Unit {0}) CodeFault → List ℕ → Type 0
SlotCorrected bound w answer after = Correction 204 Sync bound w answer after

-- the same of a TMCC word
abbrev pub TmccEncoded : List ℕ → Result (Unit {0}) CodeFault → List ℕ → Type 0
TmccEncoded w answer after = Encoded 64 48 w answer after

abbrev pub TmccCorrected : ℕ → List ℕ → Result (Unit {0}) CodeFault → List ℕ → Type 0
TmccCorrected bound w answer after = Correction 64 Any bound w answer after
