-- What is known of correcting, from what a call answers.
-- Assumes nothing.
use Rattle.std.proofs.Common.{◌≡◌, ℕ, ◌≤◌, List, length, Ok, Err, Result, sym, refl, arith}
use Rattle.code_theory.proofs.Distances.{differ_in_17, none_near}
use Rattle.outer_code.specs.declared.fault.CodeFault.{CodeFault}
use Rattle.outer_code.specs.declared.fault.CodeFault.TheVariants.{Length, Bound, Uncorrectable}
use Rattle.outer_code.specs.Calls.{Answered}
use Rattle.outer_code.specs.Results.{Finds, Refuses, AtSix, Correction}
use Rattle.outer_code.specs.Words.{Sought}

-- what a word of the right length is answered, within a right bound
pub settled : (n : ℕ) (P : ℕ → Type 0) (bound : ℕ) (w : List ℕ) (r : Result (Unit {0}) CodeFault) (after : List ℕ)
    → length w ≡ n → bound ≤ 8 → Sought P bound w r after → Answered n P bound w r after
settled n P bound w (Ok _) after l b s = (l, b, s)
settled n P bound w (Err e) after l b s = rw s.0 ((l, b, s.1), s.2)

finds : (n : ℕ) (P : ℕ → Type 0) (bound : ℕ) (w : List ℕ) (r : Result (Unit {0}) CodeFault) (after : List ℕ)
    → length w ≡ n → bound ≤ 8 → Answered n P bound w r after → Finds P bound w r after
finds n P bound w (Ok _) after l b a c near = (refl, sym (a.2.only c near))
finds n P bound w (Err Length) after l b a c near = absurd (a.0 l)
finds n P bound w (Err Bound) after l b a c near = absurd (omega (arith, a.0.1))
finds n P bound w (Err Uncorrectable) after l b a c near = absurd (a.0.2 c near)

refuses : (n : ℕ) (P : ℕ → Type 0) (bound : ℕ) (w : List ℕ) (r : Result (Unit {0}) CodeFault) (after : List ℕ)
    → length w ≡ n → n ≤ 255 → bound ≤ 8 → Answered n P bound w r after → Refuses bound w r
refuses n P bound w (Ok _) after l s b a c size f h far within =
    let near = a.2.near in
    absurd (none_near bound b w c after f near.bytes (sym size) (sym near.size) (omega arith) h near.codeword far within near.close)
refuses n P bound w (Err Length) after l s b a c size f h far within = absurd (a.0 l)
refuses n P bound w (Err Bound) after l s b a c size f h far within = absurd (omega (arith, a.0.1))
refuses n P bound w (Err Uncorrectable) after l s b a c size f h far within = refl

at_six : (P : ℕ → Type 0) (bound : ℕ) (w : List ℕ) (r : Result (Unit {0}) CodeFault) (after : List ℕ)
    → bound ≡ 6 → Finds P bound w r after → Refuses bound w r → AtSix P w r after
at_six P bound w r after six find refuse c size f h first = (
  λ near. find c (record { size = size; bytes = f; codeword = h; close = omega arith; first = first }),
  λ seven ten. refuse c size f h (omega arith) (omega arith),
)

pub correction : (n : ℕ) (P : ℕ → Type 0) (bound : ℕ) (w : List ℕ) (r : Result (Unit {0}) CodeFault) (after : List ℕ)
    → n ≤ 255 → Answered n P bound w r after → Correction n P bound w r after
correction n P bound w r after short a = record {
  answered = a;
  finds = λ l b. finds n P bound w r after l b a;
  refuses = λ l b. refuses n P bound w r after l short b a;
  at_six = λ l six.
      at_six P bound w r after six (finds n P bound w r after l (omega arith) a) (refuses n P bound w r after l short (omega arith) a);
  apart = differ_in_17;
}
