-- What is told of a run: a line of words for each event. Assumes nothing.
use Rattle.std.specs.Prelude.{ℕ, List, [], ◌∷◌, ◌++◌, codes, decimal}
use Rattle.transmission.specs.declared.event.Event.{Event}
use Rattle.transmission.specs.declared.event.Event.TheVariants.{PlanRefused, PacketsRefused, Installed, Refused, Filled, Total}

-- words with a space between
abbrev pub spaced : List ℕ → List (List ℕ) → List ℕ
spaced word [] = word
spaced word (next ∷ words) = word ++ (codes " " ++ spaced next words)

-- a word for the kind of event, and its numbers
abbrev pub line : Event → List ℕ
line (PlanRefused refusal) = spaced (codes "PLAN") (codes "REFUSED" ∷ decimal refusal ∷ [])
line (PacketsRefused refusal) = spaced (codes "PACKETS") (codes "REFUSED" ∷ decimal refusal ∷ [])
line (Installed number order) = spaced (codes "I") (decimal number ∷ decimal order ∷ [])
line (Refused number refusal) = spaced (codes "I") (decimal number ∷ codes "REFUSED" ∷ decimal refusal ∷ [])
line (Filled number order placed nulls) =
    spaced (codes "F") (decimal number ∷ decimal order ∷ decimal placed ∷ decimal nulls ∷ [])
line (Total stream placed waiting) = spaced (codes "T") (decimal stream ∷ decimal placed ∷ decimal waiting ∷ [])
