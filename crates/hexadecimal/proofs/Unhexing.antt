-- The bytes that pairs of digits write, place by place. Assumes nothing.
use Rattle.std.proofs.Common.{◌≡◌, ℕ, zero, suc, ◌+◌, ◌*◌, ◌/◌, ◌<◌, List, [], ◌∷◌, length, get_or, refl, arith}
use Rattle.std.specs.Simd.{first_chunks}
use Rattle.hexadecimal.specs.Hex.{digit, value, unhexed}

-- a byte for every two digits
pub halves : (text : List ℕ) → length text / 2 ≡ length (unhexed text)
unfolding unhexed
halves [] = refl
halves (a ∷ []) = refl
halves (a ∷ b ∷ text) = omega (arith, halves text)

-- the byte of two digits
abbrev pub byte_of : List ℕ → ℕ
byte_of pair = 16 * value (digit (get_or pair 0 0)) + value (digit (get_or pair 1 0))

-- each pair of digits writes the byte at its place
pub byte_at : (text : List ℕ) (n i : ℕ) → n ≡ length text / 2 → i < n → byte_of (get_or (first_chunks 2 n text) i []) ≡ get_or (unhexed text) i 0
unfolding unhexed
byte_at text zero i size within = absurd (omega arith)
byte_at [] (suc n) i size within = absurd (omega arith)
byte_at (a ∷ []) (suc n) i size within = absurd (omega arith)
byte_at (a ∷ b ∷ text) (suc n) zero size within = refl
byte_at (a ∷ b ∷ text) (suc n) (suc i) size within = byte_at text n i (omega arith) (omega arith)
