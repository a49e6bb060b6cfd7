-- The energy dispersal sequence, by the fifteen stages that make it. The stages' bits are held in a number, stage 1 lowest.
-- Assumes nothing.
use Rattle.std.specs.Prelude.{◌≡◌, ℕ, zero, suc, ◌+◌, ◌-◌, ◌*◌, ◌/◌, ◌%◌, ◌^◌, List, [], ◌∷◌, bit_xor}

-- the bit that stage i holds, i from 1 to 15
abbrev pub stage : ℕ → ℕ → ℕ
stage i stages = stages / 2 ^ (i - 1) % 2

-- the bit that comes out, and enters stage 1
abbrev pub fed : ℕ → ℕ
fed stages = bit_xor (stage 14 stages) (stage 15 stages)

-- each stage takes the bit of the one before it
abbrev pub moved : ℕ → ℕ
moved stages = 2 * stages % 2 ^ 15 + fed stages

-- from stage 15 down to stage 1
abbrev pub loaded : ℕ
loaded = 0b000_0000_1010_1001

-- the stages after n bits
unfoldable pub state : ℕ → ℕ
state zero = loaded
state (suc n) = moved (state n)

-- n bits from bit t on, as a number, the first highest
unfoldable pub bits : ℕ → ℕ → ℕ
bits t zero = 0
bits t (suc n) = 2 * bits t n + fed (state (t + n))

-- byte n of the sequence
unfoldable pub sequence : ℕ → ℕ
sequence n = bits (8 * n) 8

-- bytes with the sequence added from its byte n on
unfoldable pub added : ℕ → List ℕ → List ℕ
added n [] = []
added n (x ∷ xs) = bit_xor x (sequence n) ∷ added (n + 1) xs

-- the window at byte n: the 120 bits of the fifteen bytes from there on
unfoldable pub At : ℕ → ℕ → Type 0
At window n = window ≡ bits (8 * n) 120

-- adding the sequence again at the same places gives back what was there
abbrev pub Twice : Type 0
Twice = (n : ℕ) (xs : List ℕ) → added n (added n xs) ≡ xs

-- how the sequence begins
abbrev pub Begins : Type 0
Begins = (sequence 0 ≡ 0x03) × (sequence 1 ≡ 0xF6) × (sequence 2 ≡ 0x08) × (sequence 3 ≡ 0x34)
