-- Decimal digits, one by one.
-- Assumes nothing.
use Rattle.std.proofs.Common.{◌≡◌, ℕ, ◌+◌, ◌-◌, ◌*◌, ◌^◌, min, List, [], ◌∷◌, arith}
use Rattle.std.specs.List.{fold}
use Rattle.codeword_lines.specs.Decimals.{number_from}

-- a digit more, as far as a byte holds the number
abbrev pub step : ℕ → ℕ → ℕ
step n c = min (min (n * 10) (2 ^ 8 - 1) + (c - 48)) (2 ^ 8 - 1)

-- a larger number than the largest stays larger
least_more : (m n x : ℕ) → m ≡ min n 255 → min (min (m * 10) 255 + x) 255 ≡ min (10 * n + x) 255
least_more m n x e = omega (arith, e)

-- the number of all digits, where what was made of those before is the smaller of their number and 255
pub number_folded : (m n : ℕ) (digits : List ℕ) → m ≡ min n 255 → fold step m digits ≡ min (number_from n digits) 255
unfolding number_from
number_folded m n [] e = e
number_folded m n (c ∷ digits) e = number_folded (step m c) (10 * n + (c - 48)) digits (least_more m n (c - 48) e)
