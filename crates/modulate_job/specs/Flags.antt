-- The flag among the words of a call. Assumes nothing.
use Rattle.std.specs.Prelude.{◌≡◌, ℕ, Bool, true, false, cond, not, List, codes, fold, filter}
use Rattle.std.specs.Str.{bytes_eq}

-- the word is the flag
unfoldable pub is_flag : List ℕ → Bool
is_flag word = bytes_eq word (codes "--progress")

-- the words that are asked are all but the flag, and the flag is among the words or not
pub record Sorted (words asked : List (List ℕ)) (flagged : Bool) : Type 0 where
  pub others : asked ≡ filter (λ word. not (is_flag word)) words
  pub flag : flagged ≡ fold (λ before word. cond (is_flag word) true before) false words
