-- The laws of the sum.
-- Assumes nothing.
use Rattle.std.proofs.Common.{◌≡◌, ℕ, ◌+◌, ◌*◌, ◌/◌, ◌%◌, ◌^◌, ◌<◌, sym, refl, ap, ◌∙◌}
use lib.Bits.{bit_xor, xor_assoc, xor_comm, xor_self, xor_zero_l, xor_zero_r, xor_lt, xor_mod, xor_shr, xor_block}
use Rattle.field256.specs.Field.{plus}

pub plus_xor : (a b : ℕ) → plus a b ≡ bit_xor a b
unfolding plus
plus_xor a b = refl

pub plus_assoc : (a b c : ℕ) → plus (plus a b) c ≡ plus a (plus b c)
unfolding plus
plus_assoc = xor_assoc

pub plus_comm : (a b : ℕ) → plus a b ≡ plus b a
unfolding plus
plus_comm = xor_comm

pub plus_left_comm : (a b c : ℕ) → plus a (plus b c) ≡ plus b (plus a c)
plus_left_comm a b c = sym (plus_assoc a b c) ∙ ap (λ (x : ℕ). plus x c) (plus_comm a b) ∙ plus_assoc b a c

pub plus_self : (a : ℕ) → plus a a ≡ 0
unfolding plus
plus_self = xor_self

pub plus_zero : (a : ℕ) → plus a 0 ≡ a
unfolding plus
plus_zero = xor_zero_r

pub zero_plus : (a : ℕ) → plus 0 a ≡ a
unfolding plus
zero_plus = xor_zero_l

pub plus_fits : (a b : ℕ) → a < 256 → b < 256 → plus a b < 256
unfolding plus
plus_fits = xor_lt 8

-- the sum of the same with something, undone
pub plus_cancel : (a b : ℕ) → plus a (plus a b) ≡ b
plus_cancel a b = sym (plus_assoc a a b) ∙ rw (plus_self a) (zero_plus b)

pub plus_same : (a b : ℕ) → plus a b ≡ 0 → a ≡ b
plus_same a b e = sym (plus_zero a) ∙ ap (plus a) (sym e) ∙ plus_cancel a b

-- a sum is taken bit by bit: at the low eight bits, at the bits above a place, at the doubles
pub plus_mod : (a b k : ℕ) → plus a b % 2 ^ k ≡ plus (a % 2 ^ k) (b % 2 ^ k)
unfolding plus
plus_mod = xor_mod

pub plus_shr : (a b k : ℕ) → plus a b / 2 ^ k ≡ plus (a / 2 ^ k) (b / 2 ^ k)
unfolding plus
plus_shr = xor_shr

pub plus_block : (k a b r s : ℕ) → r < 2 ^ k → s < 2 ^ k → plus (a * 2 ^ k + r) (b * 2 ^ k + s) ≡ plus a b * 2 ^ k + plus r s
unfolding plus
plus_block = xor_block
