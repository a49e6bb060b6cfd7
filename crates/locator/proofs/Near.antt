-- From a codeword within the bound to the errors that lead to it.
-- Assumes nothing.
use Rattle.std.proofs.Common.{◌≡◌, ℕ, ◌+◌, ◌<◌, ◌≤◌, min, List, length, get_or, sym, ap, ◌∙◌, arith}
use Rattle.std.proofs.lemmas.List.{ext_get_or}
use Rattle.field256.specs.Field.{plus, power}
use Rattle.field256.proofs.Laws.{plus_zero, plus_cancel}
use Rattle.code_theory.specs.Codeword.{Bytes, value, weight, distance}
use Rattle.code_theory.specs.Sequences.{Values}
use Rattle.code_theory.proofs.Totals.{value_total}
use Rattle.code_theory.proofs.Differences.{difference, length_difference, bytes_difference, get_or_difference, total_difference, weight_difference}
use Rattle.locator.specs.Roots.{Roots}
use Rattle.locator.specs.Searches.{Locates, TooMany}
use Rattle.locator.specs.Errors.{ZeroElsewhere, ByteAt, corrected, Near}
use Rattle.locator.proofs.Correcting.{all_corrected, corrected_length, corrected_close}

module _ (s : List ℕ) (sixteen : length s ≡ 16) (n bound : ℕ) (short : n ≤ 255) (small : bound ≤ 8) (w c : List ℕ)
    (near : Near s n bound w c) where
  same_length : length w ≡ length c
  same_length = near.word_length ∙ sym near.codeword_length

  errors_length : length (difference w c) ≡ n
  errors_length = length_difference w c same_length ∙ near.word_length

  errors_bytes : Bytes (difference w c)
  errors_bytes = bytes_difference w c near.word_bytes near.codeword_bytes

  errors_few : weight (difference w c) ≤ bound
  errors_few = rw (weight_difference w c same_length) near.close

  errors_values : Values s (difference w c)
  errors_values k l =
      near.values k l
      ∙ sym (value_total (difference w c) k errors_bytes ∙ total_difference (λ x. power x k) w c same_length
      ∙ rw (← value_total w k near.word_bytes, ← value_total c k near.codeword_bytes, near.codeword k (omega arith))
      (plus_zero (value w (power 2 k))))

  pub not_too_many : TooMany s (min bound 8) → ⊥
  not_too_many many =
      omega (arith, many (difference w c) (omega (arith, errors_length)) errors_bytes errors_values, errors_few)

  module _ (p : List ℕ) (degree count : ℕ) (places values : List ℕ) (locates : Locates s (min bound 8) p degree) (roots : Roots p degree n count places)
      (are : (k : ℕ) → k < count → ByteAt s n count places k (get_or values k 0)) where
    light : weight (difference w c) + degree ≤ length s
    light =
        omega (arith, errors_few, locates.least (difference w c) (omega (arith, errors_length)) errors_bytes errors_values)

    elsewhere : ZeroElsewhere count places (difference w c)
    elsewhere i l some =
        roots.all short i (omega (arith, errors_length))
        (rw errors_length at (locates.zeros (difference w c) (omega (arith, errors_length)) errors_bytes errors_values light i l some))

    pub leads_to : corrected count places values w ≡ c
    leads_to =
        let bytes : (k : ℕ) → k < count → get_or values k 0 ≡ get_or (difference w c) (get_or places k 0) 0
        = λ k l. are k l (difference w c) errors_length short errors_bytes errors_values elsewhere in
        let size : length (corrected count places values w) ≡ length c
        = corrected_length count places values w ∙ same_length in
        ext_get_or 0 (corrected count places values w) c size
        (λ i l. all_corrected n count places values roots.order w (difference w c) near.word_length bytes elsewhere errors_length i
        ∙ ap (plus (get_or w i 0)) (get_or_difference w c same_length i) ∙ plus_cancel (get_or w i 0) (get_or c i 0))

    -- there are as many places as the locator's degree, or more
    pub as_many : degree ≤ count
    as_many =
        omega (
          arith,
          locates.least (difference w c) (omega (arith, errors_length)) errors_bytes errors_values,
          weight_difference w c same_length,
          corrected_close count places values w,
          ap (distance w) leads_to,
        )
