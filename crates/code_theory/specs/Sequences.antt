-- Sums, polynomials and sequences over the field.
-- Assumes nothing.
use Rattle.std.specs.Prelude.{◌≡◌, ℕ, zero, suc, ◌+◌, ◌-◌, ◌<◌, ◌≤◌, ◌≢◌, List, length, slice_index, slice_index_or}
use Rattle.field256.specs.Field.{plus, times, power}
use Rattle.code_theory.specs.Codeword.{Bytes, value, weight}

-- f 0 and so on to f (n - 1), added
unfoldable pub sum : ℕ → (ℕ → ℕ) → ℕ
sum zero f = 0
sum (suc n) f = plus (sum n f) (f n)

-- the value at x of the polynomial with the first n coefficients of p, lowest first
unfoldable pub polynomial : ℕ → List ℕ → ℕ → ℕ
polynomial n p x = sum n (λ j. times (slice_index p j) (power x j))

-- the sum of the first n coefficients of p, each times the sequence's element as far behind place i
unfoldable pub paired : ℕ → List ℕ → List ℕ → ℕ → ℕ
paired n p s i = sum n (λ j. times (slice_index p j) (slice_index s (i + j)))

-- the sequence has the word's values at the powers of 02h, from power 0 on
abbrev pub Values : List ℕ → List ℕ → Type 0
Values s w = (k : ℕ) → k < length s → slice_index s k ≡ value w (power 2 k)

-- the place of byte k of a word of n bytes: the power of 02h that stands for it
abbrev pub place : ℕ → ℕ → ℕ
place n k = power 2 (n - 1 - k)

-- After n elements of a sequence: the shortest recurrence that they obey, with the helper for the next change.
-- Both polynomials have size coefficients, lowest first.
pub record Recurrence (size : ℕ) (s : List ℕ) (n : ℕ) (locator helper : List ℕ) (degree discrepancy : ℕ) : Type 0 where
  pub within : degree ≤ n
  pub room : degree < size
  pub bytes : Bytes locator
  pub helper_bytes : Bytes helper
  pub top : (j : ℕ) → degree < j → slice_index locator j ≡ 0
  pub lead : slice_index_or locator degree 0 ≢ 0
  pub helper_top : (j : ℕ) → n < j + degree → slice_index helper j ≡ 0
  -- the locator annihilates the n elements
  pub zeros : (i : ℕ) → i + degree < n → paired size locator s i ≡ 0
  -- the helper annihilates what comes before it last failed, by the discrepancy
  pub helper_zeros : (i : ℕ) → suc i < degree → paired size helper s i ≡ 0
  pub helper_fails : (i : ℕ) → suc i ≡ degree → paired size helper s i ≡ discrepancy
  pub fails : discrepancy ≢ 0
  pub fits : discrepancy < 256
  -- no word with these values has fewer bytes other than zero
  pub least : (w : List ℕ) → length w ≤ 255 → Bytes w → Values s w → degree ≤ weight w
