-- The field of 256 elements. A number below 256 stands for the polynomial over the two-element field that has its bits as coefficients;
-- sums and products are those of polynomials, reduced by x^8 + x^4 + x^3 + x^2 + 1.
-- Each operation works on the low eight bits of a factor, so most laws hold of every number.
-- Assumes nothing.
use Rattle.std.specs.Prelude.{ℕ, zero, suc, ◌*◌, ◌/◌, ◌%◌, bit_xor}

-- the sum of two polynomials, which is also their difference
unfoldable pub plus : ℕ → ℕ → ℕ
plus a b = bit_xor a b

-- a polynomial of degree 8 at most, reduced: the field's polynomial, 11Dh, is taken away once where the coefficient of x^8 is one
unfoldable pub reduced : ℕ → ℕ
reduced d = plus d (d / 256 * 0x11D)

-- times x
unfoldable pub twice : ℕ → ℕ
twice a = reduced (2 * (a % 256))

-- a times the polynomial of b's low n bits, one bit after the other: x times what the higher bits give, and a for the lowest bit
unfoldable pub bitwise_product : ℕ → ℕ → ℕ → ℕ
bitwise_product zero a b = 0
bitwise_product (suc n) a b = plus (twice (bitwise_product n a (b / 2))) (b % 2 * a)

-- the product of two elements
unfoldable pub times : ℕ → ℕ → ℕ
times a b = bitwise_product 8 (a % 256) (b % 256)

-- the n-th power of a
unfoldable pub power : ℕ → ℕ → ℕ
power a zero = 1
power a (suc n) = times a (power a n)
