-- Two codewords that differ in seventeen places: the generator's coefficients, and zeros.
-- Assumes nothing.
use Rattle.std.proofs.Common.{ℕ, zero, suc, Bool, true, T, eqb, ltb, List, [], ◌∷◌, replicate, refl, arith, eqb→eq, ltb→lt}
use Rattle.field256.specs.Field.{plus, reduced, twice, bitwise_product, times, power}
use Rattle.field256.proofs.Below.{both, both_left, both_right, every, at}
use Rattle.code_theory.specs.Codeword.{value, value_from, Codeword, Bytes, distance}
use Rattle.code_theory.specs.Laws.{Reached}

-- the product of x less 02h to the power j, for j from 0 to 15
generator : List ℕ
generator =
    1 ∷ 59 ∷ 13 ∷ 104 ∷ 189 ∷ 68 ∷ 209 ∷ 30 ∷ 8 ∷ 163 ∷ 65 ∷ 41 ∷ 229 ∷ 98 ∷ 50 ∷ 36 ∷ 59 ∷ []

all_bytes : List ℕ → Bool
all_bytes [] = true
all_bytes (b ∷ bs) = both (ltb b 256) (all_bytes bs)

bytes_from : (w : List ℕ) → T (all_bytes w) → Bytes w
unfolding all_bytes
bytes_from [] t k = omega arith
bytes_from (b ∷ bs) t zero = ltb→lt b 256 (both_left (ltb b 256) (all_bytes bs) t)
bytes_from (b ∷ bs) t (suc k) = bytes_from bs (both_right (ltb b 256) (all_bytes bs) t) k

vanishes : List ℕ → ℕ → Bool
vanishes w j = eqb (value w (power 2 j)) 0

codeword_from : (w : List ℕ) → T (every (vanishes w) 16) → Codeword w
unfolding vanishes
codeword_from w t j h = eqb→eq (value w (power 2 j)) 0 (at (vanishes w) 16 t j h)

generator_codeword : Codeword generator
unfolding generator vanishes value value_from power times bitwise_product twice reduced plus
generator_codeword = codeword_from generator tt

zeros_codeword : Codeword (replicate 17 0)
unfolding vanishes value value_from power times bitwise_product twice reduced plus
zeros_codeword = codeword_from (replicate 17 0) tt

pub reached : Reached 17
unfolding generator all_bytes distance
reached = (
  generator,
  replicate 17 0,
  refl,
  omega arith,
  bytes_from generator tt,
  bytes_from (replicate 17 0) tt,
  generator_codeword,
  zeros_codeword,
  refl,
)
