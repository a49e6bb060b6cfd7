-- Coding and correcting a word. Assumes nothing.
use Rattle.std.specs.Prelude.{◌≡◌, ℕ, ◌-◌, ◌≤◌, List, length, take, Ok, Err, Result, slice_index}
use Rattle.code_theory.specs.Codeword.{Bytes, Codeword, distance}
use Rattle.outer_code.specs.declared.fault.CodeFault.{CodeFault}
use Rattle.outer_code.specs.declared.fault.CodeFault.TheVariants.{Uncorrectable}

-- the codeword of so many bytes that has these data: they stand first, and sixteen check bytes stand behind them
pub record CodedWord (size : ℕ) (content w : List ℕ) : Type 0 where
  pub size_is : length w ≡ size
  pub bytes : Bytes w
  pub front : take (size - 16) w ≡ content
  pub codeword : Codeword w

-- after is the word w with check bytes behind its data: the only codeword of its length that has these data
pub record Coded (message : ℕ) (w after : List ℕ) : Type 0 where
  pub size : length after ≡ length w
  pub bytes : Bytes after
  pub kept : take message after ≡ take message w
  pub codeword : Codeword after
  pub only : (c : List ℕ) → length c ≡ length w → Bytes c → take message c ≡ take message w → Codeword c → c ≡ after

-- c is a codeword that differs from the word w in at most bound bytes, and begins with a permitted byte
pub record Near (permitted : ℕ → Type 0) (bound : ℕ) (w c : List ℕ) : Type 0 where
  pub size : length c ≡ length w
  pub bytes : Bytes c
  pub codeword : Codeword c
  pub close : distance w c ≤ bound
  pub first : permitted (slice_index c 0)

-- there is no such codeword
abbrev pub NoneNear : (ℕ → Type 0) → ℕ → List ℕ → Type 0
NoneNear permitted bound w = (c : List ℕ) → Near permitted bound w c → ⊥

-- after is the one such codeword
pub record Corrected (permitted : ℕ → Type 0) (bound : ℕ) (w after : List ℕ) : Type 0 where
  pub near : Near permitted bound w after
  pub only : (c : List ℕ) → Near permitted bound w c → c ≡ after

-- the one such codeword was found and stands in the word's place, or there is none, which is the refusal, and the word is as it was
abbrev pub Sought : (ℕ → Type 0) → ℕ → List ℕ → Result (Unit {0}) CodeFault → List ℕ → Type 0
Sought permitted bound w (Ok _) after = Corrected permitted bound w after
Sought permitted bound w (Err e) after = (e ≡ Uncorrectable) × NoneNear permitted bound w × (after ≡ w)
