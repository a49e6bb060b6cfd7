-- A number read or written bit by bit. Assumes nothing.
use Rattle.std.proofs.Common.{◌≡◌, ℕ, zero, suc, ◌+◌, ◌*◌, ◌/◌, ◌%◌, ◌^◌, ◌<◌, Bool, true, false, eqb, List, sym, refl, ap, ◌∙◌, mul_assoc, mul_comm, add-one, arith}
use lib.Bits.{bit_and, bit_or}
use mir.Val.{bool_byte}
use Rattle.std.proofs.lemmas.Nat.{mod_below, pow-add, shr-shr, div-add-mod', shl_whole, or_shifted, and_mask, div_below}
use Rattle.plan_formats.specs.Bits.{bit, front}

pub bit_below : (bytes : List ℕ) (place : ℕ) → bit bytes place < 2
bit_below bytes place = mod_below _ 2 (omega arith)

pub front_more : (bytes : List ℕ) (n : ℕ) → front bytes (n + 1) ≡ front bytes n * 2 + bit bytes n
unfolding front
front_more bytes n = ap (front bytes) (add-one n)

pub double_pow : (k : ℕ) → 2 ^ (k + 1) ≡ 2 * 2 ^ k
double_pow k = pow-add 2 k 1 ∙ mul_comm (2 ^ k) 2

pub bool_small : (b : Bool) → bool_byte b < 2 ^ 1
bool_small true = omega arith
bool_small false = omega arith

below_two : (y : ℕ) → y < 2 → bool_byte (eqb y 1) ≡ y
below_two zero h = refl
below_two (suc zero) h = refl
below_two (suc (suc y)) h = absurd (omega (arith, h))

-- a number's lowest bit, as a test
pub lowest_bit : (x : ℕ) → bool_byte (eqb (bit_and x 1) 1) ≡ x % 2
lowest_bit x = ap (λ (y : ℕ). bool_byte (eqb y 1)) (and_mask x 1) ∙ below_two (x % 2) (mod_below x 2 (omega arith))

-- a number shifted one place less far has one bit more
pub shift_less : (v k : ℕ) → v / 2 ^ k ≡ v / 2 ^ (k + 1) * 2 + v / 2 ^ k % 2
shift_less v k = sym (div-add-mod' (v / 2 ^ k) 2) ∙ ap (λ (x : ℕ). x * 2 + v / 2 ^ k % 2) (shr-shr v k 1)

pub shift_out : (v k : ℕ) → v < 2 ^ k → v / 2 ^ k ≡ 0
shift_out v k h = let none : v / 2 ^ k < 1 = div_below v (2 ^ k) 1 (omega (arith, h)) (omega (arith, h)) in omega arith

-- k bits of a number after what stood before them, and one bit more
pub bits_more : (before k v b : ℕ) → (before * 2 ^ k + v) * 2 + b ≡ before * 2 ^ (k + 1) + (v * 2 + b)
bits_more before k v b =
    let split : before * 2 ^ (k + 1) ≡ before * 2 ^ k * 2 = ap (λ (x : ℕ). before * x) (pow-add 2 k 1) ∙ sym (mul_assoc before (2 ^ k) 2) in
    omega (arith, split)

pub below_more : (k v b : ℕ) → v < 2 ^ k → b < 2 → v * 2 + b < 2 ^ (k + 1)
below_more k v b hv hb = omega (arith, double_pow k)

-- a shift by one place, and one bit more
pub shifted : (v k b : ℕ) → v < 2 ^ k → k < 64 → b < 2 → bit_or ((v * 2) % 2 ^ 64) b ≡ v * 2 + b
shifted v k b hv hk hb = ap (λ (x : ℕ). bit_or x b) (shl_whole v k 1 64 hv (omega arith)) ∙ or_shifted v 1 b hb
