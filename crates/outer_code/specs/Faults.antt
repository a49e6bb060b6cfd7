-- The numbers of the refusals. Assumes nothing.
use Rattle.std.specs.Prelude.{ℕ, Ok, Err, Result}
use Rattle.outer_code.specs.declared.fault.CodeFault.{CodeFault}
use Rattle.outer_code.specs.declared.fault.CodeFault.TheVariants.{Length, Bound, Uncorrectable}

-- the number of a refusal, at a kind of word that refuses what cannot be corrected by the number given
abbrev pub number : ℕ → CodeFault → ℕ
number refused Length = 8
number refused Bound = 9
number refused Uncorrectable = refused

-- an answer as a number: 0 for done, else the refusal's
abbrev pub answer_number : ℕ → Result (Unit {0}) CodeFault → ℕ
answer_number refused (Ok _) = 0
answer_number refused (Err e) = number refused e
