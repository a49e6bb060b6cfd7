-- A block read column by column, element by element. Assumes nothing.
use Rattle.std.proofs.Common.{◌≡◌, ℕ, ◌<◌, List, length, get_or, zero-add}
use Rattle.std.proofs.lemmas.List.FromFn.{length-map-range_with_len, get_or-map-range_with_len, fill_by_all}
use Rattle.interleaver.specs.Blocks.{size, place, transposed}

module _ {X : Type 0} (rows columns : ℕ) (rest : X) (block : List X) where
  pub length_transposed : length (transposed rows columns rest block) ≡ size
  unfolding transposed
  length_transposed = length-map-range_with_len (λ k. get_or block (place rows columns k) rest) 0 size

  pub get_or_transposed :
      (k : ℕ) (d : X) → k < size → get_or (transposed rows columns rest block) k d ≡ get_or block (place rows columns k) rest
  unfolding transposed
  get_or_transposed k d h = get_or-map-range_with_len (λ j. get_or block (place rows columns j) rest) 0 size k k d h (zero-add k)

  pub transposed_from :
      (xs : List X) → length xs ≡ size → ((k : ℕ) → k < size → get_or xs k rest ≡ get_or block (place rows columns k) rest) →
      xs ≡ transposed rows columns rest block
  unfolding transposed
  transposed_from xs e at = fill_by_all (λ k. get_or block (place rows columns k) rest) xs size rest e at
