-- Polynomials, with their coefficients lowest first, and the places of a word where one of nine coefficients is zero.
-- Assumes nothing.
use Rattle.std.specs.Prelude.{◌≡◌, ℕ, ◌<◌, ◌≤◌, ◌≢◌, List, length, slice_index, slice_index_or}
use Rattle.code_theory.specs.Codeword.{Bytes}
use Rattle.code_theory.specs.Sequences.{polynomial, place}

-- a polynomial of this degree, with room for so many coefficients
pub record OfDegree (terms degree : ℕ) (p : List ℕ) : Type 0 where
  pub size : length p ≡ terms
  pub room : degree < terms
  pub bytes : Bytes p
  pub top : (j : ℕ) → degree < j → slice_index p j ≡ 0
  pub lead : slice_index_or p degree 0 ≢ 0

-- the first places of a list are in order, and within a word of n bytes
pub record Ordered (n count : ℕ) (list : List ℕ) : Type 0 where
  pub within : (m : ℕ) → m < count → slice_index list m < n
  pub rising : (i j : ℕ) → i < j → j < count → slice_index list i < slice_index list j

-- k is among the first places of a list
abbrev pub Listed : ℕ → List ℕ → ℕ → Type 0
Listed count list k = (m : ℕ) × (m < count) × (slice_index list m ≡ k)

-- the first places of the list are just those of a word of n bytes at which p is zero, no more than its degree, and zeros follow
pub record Roots (p : List ℕ) (degree n count : ℕ) (list : List ℕ) : Type 0 where
  pub size : length list ≡ 16
  pub room : count ≤ degree
  pub order : Ordered n count list
  pub only : (m : ℕ) → m < count → polynomial 9 p (place n (slice_index list m)) ≡ 0
  pub all : n ≤ 255 → (k : ℕ) → k < n → polynomial 9 p (place n k) ≡ 0 → Listed count list k
  pub spare : (m : ℕ) → count ≤ m → slice_index list m ≡ 0
