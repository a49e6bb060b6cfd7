-- What the search for a locator keeps.
-- Assumes nothing.
use Rattle.std.specs.Prelude.{◌≡◌, ℕ, ◌+◌, ◌<◌, ◌≤◌, ◌≢◌, List, length, Ok, Err, Result, slice_index}
use Rattle.code_theory.specs.Codeword.{Bytes, weight}
use Rattle.code_theory.specs.Sequences.{Values, Recurrence, polynomial, paired, place}
use Rattle.locator.specs.Roots.{OfDegree}
use Rattle.locator.specs.declared.sequence.Search.{Search}
use Rattle.locator.specs.declared.sequence.TooManyErrors.{TooManyErrors}

-- after n elements of a sequence the search has the shortest recurrence that they obey, of a degree within the bound
pub record Found (s : List ℕ) (bound n : ℕ) (t : Search) : Type 0 where
  pub few : t.degree ≤ bound
  pub size : length t.locator ≡ 9
  pub helper_size : length t.helper ≡ 9
  pub recurrence : Recurrence 9 s n t.locator t.helper t.degree t.discrepancy

-- every word with these values has more bytes other than zero than the bound
abbrev pub TooMany : List ℕ → ℕ → Type 0
TooMany s bound = (w : List ℕ) → length w ≤ 255 → Bytes w → Values s w → bound < weight w

-- the search has come to n elements, or the errors are more than the bound and the search is as it was
abbrev pub Stepped : List ℕ → ℕ → ℕ → Search → Result (Unit {0}) TooManyErrors → Search → Type 0
Stepped s bound n before (Ok _) after = Found s bound n after
Stepped s bound n before (Err _) after = TooMany s bound × (after ≡ before)

-- A polynomial that is zero at the places of the bytes other than zero of each word with these values, unless those are too many;
-- of the least degree, within the bound, with its coefficients lowest first. It annihilates the sequence.
pub record Locates (s : List ℕ) (bound : ℕ) (p : List ℕ) (degree : ℕ) : Type 0 where
  pub shape : OfDegree 9 degree p
  pub few : degree ≤ bound
  pub annihilates : (i : ℕ) → i + degree < length s → paired 9 p s i ≡ 0
  pub least : (w : List ℕ) → length w ≤ 255 → Bytes w → Values s w → degree ≤ weight w
  pub zeros : (w : List ℕ) → length w ≤ 255 → Bytes w → Values s w → weight w + degree ≤ length s
      → (k : ℕ) → k < length w → slice_index w k ≢ 0 → polynomial 9 p (place (length w) k) ≡ 0
