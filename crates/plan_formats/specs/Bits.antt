-- Fields of bits, joined without gaps, in a string of bytes. Assumes nothing.
use Rattle.std.specs.Prelude.{◌≡◌, ℕ, zero, suc, ◌+◌, ◌-◌, ◌*◌, ◌/◌, ◌%◌, ◌^◌, ◌<◌, List, [], ◌∷◌, length, slice_index}

-- the bit at a place, from 0: each byte's highest bit comes first
abbrev pub bit : List ℕ → ℕ → ℕ
bit bytes place = slice_index bytes (place / 8) / 2 ^ (7 - place % 8) % 2

-- the number that the first n bits make
unfoldable pub front : List ℕ → ℕ → ℕ
front bytes zero = 0
front bytes (suc n) = front bytes n * 2 + bit bytes n

-- a field: how many bits it has, and the number that they make
abbrev pub Field : Type 0
Field = ℕ × ℕ

-- the number whose bits are those of a number and then those of each field
unfoldable pub joined : ℕ → List Field → ℕ
joined before [] = before
joined before (f ∷ fs) = joined (before * 2 ^ f.0 + f.1) fs

unfoldable pub width : List Field → ℕ
width [] = 0
width (f ∷ fs) = f.0 + width fs

-- each field's number fits its bits
unfoldable pub Fit : List Field → Type 0
Fit [] = Unit {0}
Fit (f ∷ fs) = (f.1 < 2 ^ f.0) × Fit fs

-- the bytes hold the fields: bit for bit, with none left over
pub record Holds (bytes : List ℕ) (fields : List Field) : Type 0 where
  pub size : length bytes * 8 ≡ width fields
  pub bits : front bytes (width fields) ≡ joined 0 fields
  pub fits : Fit fields
