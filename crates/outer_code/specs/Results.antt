-- What is known of correcting a word, whatever its kind. Assumes nothing.
use Rattle.std.specs.Prelude.{◌≡◌, ℕ, ◌+◌, ◌<◌, ◌≤◌, List, length, Ok, Err, Result, slice_index}
use Rattle.code_theory.specs.Codeword.{Bytes, Codeword, distance}
use Rattle.outer_code.specs.declared.fault.CodeFault.{CodeFault}
use Rattle.outer_code.specs.declared.fault.CodeFault.TheVariants.{Uncorrectable}
use Rattle.code_theory.specs.Laws.{DifferIn}
use Rattle.outer_code.specs.Calls.{Answered}
use Rattle.outer_code.specs.Words.{Near}

-- every codeword within the bound that begins with a permitted byte is the one that is found
abbrev pub Finds : (ℕ → Type 0) → ℕ → List ℕ → Result (Unit {0}) CodeFault → List ℕ → Type 0
Finds permitted bound w answer after =
    (c : List ℕ) → Near permitted bound w c → (answer ≡ Ok tt) × (after ≡ c)

-- where a word differs from a codeword in more bytes than the bound, and in at most 16 less the bound, it is refused
abbrev pub Refuses : ℕ → List ℕ → Result (Unit {0}) CodeFault → Type 0
Refuses bound w answer =
    (c : List ℕ) → length c ≡ length w → Bytes c → Codeword c → bound < distance w c → distance w c + bound ≤ 16
    → answer ≡ Err Uncorrectable

-- with the bound 6: at most six wrong bytes of a codeword that begins with a permitted byte are corrected, seven to ten refused
abbrev pub AtSix : (ℕ → Type 0) → List ℕ → Result (Unit {0}) CodeFault → List ℕ → Type 0
AtSix permitted w answer after =
    (c : List ℕ) → length c ≡ length w → Bytes c → Codeword c → permitted (slice_index c 0)
    → (distance w c ≤ 6 → (answer ≡ Ok tt) × (after ≡ c))
    × (7 ≤ distance w c → distance w c ≤ 10 → answer ≡ Err Uncorrectable)

-- all that correcting a word of a kind promises
pub record Correction (size : ℕ) (permitted : ℕ → Type 0) (bound : ℕ) (w : List ℕ) (answer : Result (Unit {0}) CodeFault) (after : List ℕ) : Type 0 where
  pub answered : Answered size permitted bound w answer after
  pub finds : length w ≡ size → bound ≤ 8 → Finds permitted bound w answer after
  pub refuses : length w ≡ size → bound ≤ 8 → Refuses bound w answer
  pub at_six : length w ≡ size → bound ≡ 6 → AtSix permitted w answer after
  pub apart : DifferIn 17
