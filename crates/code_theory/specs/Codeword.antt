-- Codewords of the outer code, and how far apart two words are. A word is a list of bytes.
-- Assumes nothing.
use Rattle.std.specs.Prelude.{◌≡◌, ℕ, zero, suc, ◌+◌, ◌<◌, cond, List, [], ◌∷◌, ◌==◌, slice_index}
use Rattle.field256.specs.Field.{plus, times, power}

-- The value at x of the polynomial whose coefficients are acc and then the word's bytes, highest first.
unfoldable pub value_from : ℕ → List ℕ → ℕ → ℕ
value_from acc [] x = acc
value_from acc (b ∷ bs) x = value_from (plus (times acc x) b) bs x

-- The value at x of the polynomial with the word's bytes as coefficients, highest first.
unfoldable pub value : List ℕ → ℕ → ℕ
value w x = value_from 0 w x

-- A codeword is zero at the powers 0 to 15 of 02h.
abbrev pub Codeword : List ℕ → Type 0
Codeword w = (j : ℕ) → j < 16 → value w (power 2 j) ≡ 0

-- Each element is a byte.
abbrev pub Bytes : List ℕ → Type 0
Bytes w = (k : ℕ) → slice_index w k < 256

-- In how many places two words of one length differ.
unfoldable pub distance : List ℕ → List ℕ → ℕ
distance [] v = 0
distance (a ∷ rest) [] = 0
distance (a ∷ rest) (b ∷ bs) = cond (a == b) 0 1 + distance rest bs

-- In how many places a word is not zero.
unfoldable pub weight : List ℕ → ℕ
weight [] = 0
weight (zero ∷ bs) = weight bs
weight (suc b ∷ bs) = suc (weight bs)
