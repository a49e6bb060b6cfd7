-- Digests of bytes. Assumes nothing.
use Rattle.std.specs.Prelude.{ℕ, zero, suc, ◌*◌, ◌/◌, ◌%◌, ◌^◌, cond, List, fold, ◌==◌, bit_xor}

-- the register of the CRC-32 after one step: the lowest bit goes out, and where it is 1 the polynomial is added
abbrev pub shifted : ℕ → ℕ
shifted register = cond (register % 2 == 1) (bit_xor (register / 2) 0xEDB88320) (register / 2)

-- so many steps
unfoldable pub times : ℕ → ℕ → ℕ
times zero register = register
times (suc n) register = shifted (times n register)

-- the register after a byte: the byte is added, and eight steps are made
unfoldable pub crc_step : ℕ → ℕ → ℕ
crc_step register byte = times 8 (bit_xor register byte)

-- the CRC-32 of IEEE 802.3: the register begins with ones, and is inverted at the end
unfoldable pub crc : List ℕ → ℕ
crc bytes = bit_xor (fold crc_step 0xFFFFFFFF bytes) 0xFFFFFFFF

-- the 64-bit FNV-1a hash after a byte
abbrev pub fnv_step : ℕ → ℕ → ℕ
fnv_step hash byte = bit_xor hash byte * 0x100000001B3 % 2 ^ 64

-- the hash of bytes
unfoldable pub fnv : List ℕ → ℕ
fnv bytes = fold fnv_step 0xCBF29CE484222325 bytes
