-- The remainder of a word's polynomial by the generator, which is the product of x − 2^j for j from 0 to 15, and the check bytes of data.
-- Assumes nothing.
use Rattle.std.specs.Prelude.{◌≡◌, ℕ, zero, suc, ◌/◌, ◌%◌, ◌^◌, ◌<◌, min, List, [], ◌∷◌, ◌++◌, length, replicate, slice_index}
use Rattle.field256.specs.Field.{power}
use Rattle.code_theory.specs.Codeword.{value, Codeword, Bytes}
use Rattle.code_theory.specs.Sequences.{polynomial}

-- the k low bytes of a number, highest first
unfoldable pub bytes_of : ℕ → ℕ → List ℕ
bytes_of zero n = []
bytes_of (suc k) n = n / 256 ^ k % 256 ∷ bytes_of k n

-- a word times x^k: it is followed by k zero bytes
unfoldable pub shifted : ℕ → List ℕ → List ℕ
shifted k w = w ++ replicate k 0

-- The number's sixteen bytes are the remainder of the word by the generator: the polynomial of degree below sixteen that has the word's value at each of the generator's roots.
pub record Remainder (w : List ℕ) (r : ℕ) : Type 0 where
  pub fits : r < 2 ^ 128
  pub same : (j : ℕ) → j < 16 → value (bytes_of 16 r) (power 2 j) ≡ value w (power 2 j)

-- The check bytes of data: the only sixteen bytes that make a codeword of it.
pub record Checks (message c : List ℕ) : Type 0 where
  pub size : length c ≡ 16
  pub bytes : Bytes c
  pub codeword : Codeword (message ++ c)
  pub only : (d : List ℕ) → length d ≡ 16 → Bytes d → Codeword (message ++ d) → d ≡ c

-- The syndromes of a word: its values at the sixteen roots.
pub record Syndromes (w s : List ℕ) : Type 0 where
  pub size : length s ≡ 16
  pub bytes : Bytes s
  pub at : (j : ℕ) → j < 16 → slice_index s j ≡ value w (power 2 j)

-- The values, at the sixteen roots, of the polynomial with the first sixteen coefficients of p, lowest first.
pub record AtRoots (p s : List ℕ) : Type 0 where
  pub size : length s ≡ 16
  pub bytes : Bytes s
  pub at : (j : ℕ) → j < 16 → slice_index s j ≡ polynomial (min (length p) 16) p (power 2 j)
