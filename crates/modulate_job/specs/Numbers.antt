-- Numbers in words. Assumes nothing.
use Rattle.std.specs.Prelude.{◌≡◌, ℕ, ◌<◌, List}
use Rattle.std.specs.Str.Parse.{IsNumeral, digits_value, without_leading_plus}

-- the word writes the number in decimal digits, perhaps behind a plus sign, and it is below the limit
pub record Number (limit : ℕ) (word : List ℕ) (n : ℕ) : Type 0 where
  pub digits : IsNumeral 10 (without_leading_plus word)
  pub value_is : n ≡ digits_value 10 (without_leading_plus word)
  pub below : n < limit
