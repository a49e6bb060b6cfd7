-- Words that are zero but at listed places, and words with errors taken away.
-- Assumes nothing.
use Rattle.std.specs.Prelude.{◌≡◌, ℕ, zero, suc, ◌<◌, ◌≤◌, min, ◌≢◌, List, length, slice_index, slice_set}
use Rattle.field256.specs.Field.{plus, times, power}
use Rattle.code_theory.specs.Codeword.{Bytes, Codeword, distance}
use Rattle.code_theory.specs.Sequences.{Values, sum, place}
use Rattle.locator.specs.Roots.{Listed, Ordered}

-- the word is zero at every place that is not among the first of the list
abbrev pub ZeroElsewhere : ℕ → List ℕ → List ℕ → Type 0
ZeroElsewhere count list w = (i : ℕ) → i < length w → slice_index w i ≢ 0 → Listed count list i

-- b is the byte at place k of the list, in each word of n bytes with these values that is zero elsewhere
abbrev pub ByteAt : List ℕ → ℕ → ℕ → List ℕ → ℕ → ℕ → Type 0
ByteAt s n count list k b =
    (w : List ℕ) → length w ≡ n → n ≤ 255 → Bytes w → Values s w → ZeroElsewhere count list w → b ≡ slice_index w (slice_index list k)

-- the value at 2^j of a word of n bytes that has the listed bytes at the listed places, and is zero elsewhere
unfoldable pub error_value : ℕ → ℕ → List ℕ → List ℕ → ℕ → ℕ
error_value n count places values j = sum count (λ m. times (slice_index values m) (power (place n (slice_index places m)) j))

-- its first values, as many as there are places, are those of the sequence
abbrev pub Meets : List ℕ → ℕ → ℕ → List ℕ → List ℕ → Type 0
Meets s n count places values = n ≤ 255 → (j : ℕ) → j < count → error_value n count places values j ≡ slice_index s j

-- the word with value added at place
unfoldable pub changed : List ℕ → ℕ → ℕ → List ℕ
changed w place value = slice_set w place (plus (slice_index w place) value)

-- the word with the first values of a list added at the places of another
unfoldable pub corrected : ℕ → List ℕ → List ℕ → List ℕ → List ℕ
corrected zero places values w = w
corrected (suc m) places values w = changed (corrected m places values w) (slice_index places m) (slice_index values m)

-- c is a codeword within the bound of the word w of n bytes, which has these sixteen values
pub record Near (s : List ℕ) (n bound : ℕ) (w c : List ℕ) : Type 0 where
  pub word_length : length w ≡ n
  pub codeword_length : length c ≡ n
  pub word_bytes : Bytes w
  pub codeword_bytes : Bytes c
  pub values : Values s w
  pub codeword : Codeword c
  pub close : distance w c ≤ bound

-- no word of n bytes with these values has a codeword within the bound
abbrev pub NothingNear : List ℕ → ℕ → ℕ → Type 0
NothingNear s n bound = n ≤ 255 → bound ≤ 8 → (w c : List ℕ) → Near s n bound w c → ⊥

-- the listed errors, no more than the bound, lead from each word with these values to a codeword: the one within the bound
pub record Corrects (s : List ℕ) (n bound count : ℕ) (places values : List ℕ) : Type 0 where
  pub places_size : length places ≡ 16
  pub values_size : length values ≡ 16
  pub bytes : Bytes values
  pub room : count ≤ min bound 8
  pub order : Ordered n count places
  pub codeword : n ≤ 255 → (w : List ℕ) → length w ≡ n → Bytes w → Values s w → Codeword (corrected count places values w)
  pub leads : n ≤ 255 → bound ≤ 8 → (w c : List ℕ) → Near s n bound w c → corrected count places values w ≡ c
