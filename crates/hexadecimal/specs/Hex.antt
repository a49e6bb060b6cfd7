-- Bytes as hexadecimal digits. Assumes nothing.
use Rattle.std.specs.Prelude.{◌≡◌, ℕ, ◌+◌, ◌-◌, ◌*◌, ◌/◌, ◌%◌, ◌&&◌, cond, if◌then◌else◌, Option, Some, None, is_some, List, [], ◌∷◌, length, nat_le, nat_lt}
use Rattle.std.specs.List.{AllPass, flat_map}

-- the hexadecimal digit of a value, in capitals: 0 to 9, and then A to F
abbrev pub capital : ℕ → ℕ
capital value = cond (nat_lt value 10) (48 + value) (55 + value)

-- the digits of a byte, the high one first
abbrev pub digits_of : ℕ → List ℕ
digits_of byte = capital (byte / 16) ∷ capital (byte % 16) ∷ []

-- the digits of bytes
abbrev pub hexed : List ℕ → List ℕ
hexed bytes = flat_map digits_of bytes

-- the value of a hexadecimal digit of either case
abbrev pub digit : ℕ → Option ℕ
digit c =
    if nat_le 48 c && nat_le c 57 then Some (c - 48)
    else if nat_le 65 c && nat_le c 70 then Some (c - 55)
    else if nat_le 97 c && nat_le c 102 then Some (c - 87)
    else None

-- hexadecimal digits, two to a byte
abbrev pub Hex : List ℕ → Type 0
Hex text = (length text % 2 ≡ 0) × AllPass (λ c. is_some (digit c)) text

-- a digit's value, where there is one
abbrev pub value : Option ℕ → ℕ
value None = 0
value (Some v) = v

-- the bytes that digits write
unfoldable pub unhexed : List ℕ → List ℕ
unhexed [] = []
unhexed (a ∷ []) = []
unhexed (a ∷ b ∷ rest) = (16 * value (digit a) + value (digit b)) ∷ unhexed rest
