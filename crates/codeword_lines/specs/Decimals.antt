-- Numbers as decimal digits. Assumes nothing.
use Rattle.std.specs.Prelude.{ℕ, ◌+◌, ◌-◌, ◌*◌, ◌<◌, ◌≤◌, List, [], ◌∷◌, length, slice_index}

abbrev pub DecimalDigit : ℕ → Type 0
DecimalDigit c = (48 ≤ c) × (c ≤ 57)

-- one decimal digit or more
abbrev pub Decimal : List ℕ → Type 0
Decimal text = (1 ≤ length text) × ((k : ℕ) → k < length text → DecimalDigit (slice_index text k))

-- the number that the digits write behind a number
unfoldable pub number_from : ℕ → List ℕ → ℕ
number_from n [] = n
number_from n (c ∷ rest) = number_from (10 * n + (c - 48)) rest
