-- Bytes written as hexadecimal digits with small letters. Assumes nothing.
use Rattle.std.specs.Prelude.{◌≡◌, ℕ, ◌<◌, ◌≤◌, List, length, slice_index}
use Rattle.hexadecimal.specs.Hex.{Hex, unhexed}

-- no capital letter is in the text
abbrev pub Small : List ℕ → Type 0
Small text = (k : ℕ) → k < length text → 65 ≤ slice_index text k → slice_index text k ≤ 90 → ⊥

-- the text has two digits for each byte, the high one first: 0 to 9, and small a to f
pub record Spells (text bytes : List ℕ) : Type 0 where
  pub small : Small text
  pub hex : Hex text
  pub bytes_are : bytes ≡ unhexed text
