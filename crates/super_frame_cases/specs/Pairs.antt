-- The bytes of a case's plan, out of its text. Assumes nothing.
use Rattle.std.specs.Prelude.{ℕ, ◌&&◌, ◌||◌, Bool, if◌then◌else◌, List, [], ◌∷◌, ◌++◌, nat_le}
use Rattle.hexadecimal.specs.Hex.{unhexed}

-- whether a character is a hexadecimal digit, a letter only in capitals
abbrev pub is_capital : ℕ → Bool
is_capital c = (nat_le 48 c && nat_le c 57) || (nat_le 65 c && nat_le c 70)

-- the bytes that the pairs of such digits write; any other pair is passed over, and so is a last character without a second
unfoldable pub read_pairs : List ℕ → List ℕ
read_pairs [] = []
read_pairs (a ∷ []) = []
read_pairs (a ∷ b ∷ rest) = (if is_capital a && is_capital b then unhexed (a ∷ b ∷ []) else []) ++ read_pairs rest
