-- Division of a polynomial by y less x. Coefficients stand lowest first.
-- Assumes nothing.
use Rattle.std.specs.Prelude.{◌≡◌, ℕ, ◌<◌, ◌≢◌, List, [], ◌∷◌, slice_index}
use Rattle.field256.specs.Field.{plus, times}
use Rattle.code_theory.specs.Sequences.{polynomial, paired, place}
use Rattle.locator.specs.Roots.{OfDegree}

-- the value at x, from the highest coefficient down
unfoldable pub horner : List ℕ → ℕ → ℕ
horner [] x = 0
horner (b ∷ bs) x = plus b (times x (horner bs x))

-- the quotient by y less x: each coefficient is the value at x of those above it
unfoldable pub quotient_by : List ℕ → ℕ → List ℕ
quotient_by [] x = []
quotient_by (b ∷ bs) x = horner bs x ∷ quotient_by bs x

-- a polynomial of degree count that is zero at the first count places of a list, in a word of n bytes
pub record Vanishes (n count : ℕ) (list p : List ℕ) : Type 0 where
  pub shape : OfDegree 17 count p
  pub zeros : (m : ℕ) → m < count → polynomial 17 p (place n (slice_index list m)) ≡ 0

-- r is the quotient by y less x paired with a sequence, over its value at x
abbrev pub Weighed : List ℕ → List ℕ → ℕ → ℕ → Type 0
Weighed s p x r =
    polynomial 17 (quotient_by p x) x ≢ 0 → times r (polynomial 17 (quotient_by p x) x) ≡ paired 17 (quotient_by p x) s 0
