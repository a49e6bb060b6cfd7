-- The product by bits: it is a sum and a double in each factor, and so it commutes and associates.
-- Assumes nothing.
use Rattle.std.proofs.Common.{◌≡◌, ℕ, zero, suc, ◌+◌, ◌*◌, ◌/◌, ◌%◌, ◌^◌, ◌<◌, Bool, T, eqb, ltb, sym, refl, ap, ◌∙◌, mod-lt, mul_comm, one-mul, zero-mul, arith, eqb→eq, ltb→lt}
use Rattle.field256.specs.Field.{plus, reduced, twice, bitwise_product}
use Rattle.field256.proofs.Below.{every, at}
use Rattle.field256.proofs.Sums.{plus_assoc, plus_comm, plus_left_comm, plus_self, plus_zero, zero_plus, plus_mod, plus_shr, plus_block, plus_fits}

-- a bit times a value, under a function that keeps zero
bit_under : (f : ℕ → ℕ) → f 0 ≡ 0 → (s : ℕ) → s < 2 → (x : ℕ) → s * f x ≡ f (s * x)
bit_under f z zero h x = zero-mul (f x) ∙ sym z ∙ ap f (sym (zero-mul x))
bit_under f z (suc zero) h x = one-mul (f x) ∙ ap f (sym (one-mul x))
bit_under f z (suc (suc s)) h x = absurd (omega arith)

bit_plus : (s : ℕ) → s < 2 → (x y : ℕ) → s * plus x y ≡ plus (s * x) (s * y)
bit_plus zero h x y = simp (zero-mul, zero_plus)
bit_plus (suc zero) h x y = simp one-mul
bit_plus (suc (suc s)) h x y = absurd (omega arith)

plus_bits : (u v m : ℕ) → u < 2 → v < 2 → plus u v * m ≡ plus (u * m) (v * m)
plus_bits zero v m h k = simp (zero_plus, zero-mul)
plus_bits (suc zero) zero m h k = simp (plus_zero, zero-mul)
plus_bits (suc zero) (suc zero) m h k = simp (plus_self, zero-mul)
plus_bits (suc zero) (suc (suc v)) m h k = absurd (omega arith)
plus_bits (suc (suc u)) v m h k = absurd (omega arith)

bit_fits : (s : ℕ) → s < 2 → (x : ℕ) → x < 256 → s * x < 256
bit_fits zero h x k = rw (zero-mul x) (omega arith)
bit_fits (suc zero) h x k = rw (one-mul x) k
bit_fits (suc (suc s)) h x k = absurd (omega arith)

-- ---- times x

reduced_plus : (d e : ℕ) → d < 512 → e < 512 → reduced (plus d e) ≡ plus (reduced d) (reduced e)
unfolding reduced
reduced_plus d e h k =
    let hd : d / 256 < 2 = omega arith in
    let he : e / 256 < 2 = omega arith in
    ap (λ (q : ℕ). plus (plus d e) (q * 285)) (plus_shr d e 8)
    ∙ ap (plus (plus d e)) (plus_bits (d / 256) (e / 256) 285 hd he)
    ∙ simp (plus_assoc, plus_comm)

double_plus : (a b : ℕ) → 2 * plus a b ≡ plus (2 * a) (2 * b)
double_plus a b =
    let z : plus 0 0 ≡ 0 = zero_plus 0 in
    let e = plus_block 1 a b 0 0 (omega arith) (omega arith) in
    let ea : a * 2 ^ 1 + 0 ≡ 2 * a = omega arith in
    let eb : b * 2 ^ 1 + 0 ≡ 2 * b = omega arith in
    let l : 2 * plus a b ≡ plus a b * 2 ^ 1 + plus 0 0 = omega (arith, z) in
    l ∙ sym e ∙ rw (ea, eb) refl

pub twice_plus : (a b : ℕ) → twice (plus a b) ≡ plus (twice a) (twice b)
unfolding twice
twice_plus a b =
    let ha : 2 * (a % 256) < 512 = omega arith in
    let hb : 2 * (b % 256) < 512 = omega arith in
    ap (λ (x : ℕ). reduced (2 * x)) (plus_mod a b 8) ∙ ap reduced (double_plus (a % 256) (b % 256))
    ∙ reduced_plus (2 * (a % 256)) (2 * (b % 256)) ha hb

pub twice_zero : twice 0 ≡ 0
unfolding twice reduced plus
twice_zero = refl

twice_low : (a : ℕ) → twice a ≡ twice (a % 256)
unfolding twice
twice_low a = let e : a % 256 % 256 ≡ a % 256 = omega arith in rw e

fits_test : ℕ → Bool
fits_test a = ltb (twice a) 256

fits_passes : T (every fits_test 256)
unfolding fits_test twice reduced plus
fits_passes = tt

pub twice_fits : (a : ℕ) → twice a < 256
unfolding fits_test
twice_fits a =
    let h : a % 256 < 256 = omega arith in
    rw (twice_low a) (ltb→lt (twice (a % 256)) 256 (at fits_test 256 fits_passes (a % 256) h))

-- ---- the product, in its first factor

pub product_zero : (n b : ℕ) → bitwise_product n 0 b ≡ 0
unfolding bitwise_product
product_zero zero b = refl
product_zero (suc n) b =
    rw (product_zero n (b / 2), twice_zero) (zero_plus (b % 2 * 0) ∙ mul_comm (b % 2) 0 ∙ zero-mul (b % 2))

pub product_plus : (n a c b : ℕ) → bitwise_product n (plus a c) b ≡ plus (bitwise_product n a b) (bitwise_product n c b)
unfolding bitwise_product
product_plus zero a c b = sym (zero_plus 0)
product_plus (suc n) a c b =
    rw (product_plus n a c (b / 2), twice_plus (bitwise_product n a (b / 2)) (bitwise_product n c (b / 2)), bit_plus (b % 2) (mod-lt b (omega arith)) a c)
    (simp (plus_assoc, plus_comm, plus_left_comm))

pub product_twice : (n a b : ℕ) → bitwise_product n (twice a) b ≡ twice (bitwise_product n a b)
unfolding bitwise_product
product_twice zero a b = sym twice_zero
product_twice (suc n) a b =
    rw (product_twice n a (b / 2), bit_under twice twice_zero (b % 2) (mod-lt b (omega arith)) a)
    (sym (twice_plus (twice (bitwise_product n a (b / 2))) (b % 2 * a)))

-- two products, one after the other, in either order
pub product_product : (m n c a b : ℕ) → bitwise_product m (bitwise_product n c a) b ≡ bitwise_product n (bitwise_product m c b) a
unfolding bitwise_product
product_product m zero c a b = product_zero m b
product_product m (suc n) c a b =
    product_plus m (twice (bitwise_product n c (a / 2))) (a % 2 * c) b
    ∙ rw (
      product_twice m (bitwise_product n c (a / 2)) b,
      product_product m n c (a / 2) b,
      ← bit_under (λ (x : ℕ). bitwise_product m x b) (product_zero m b) (a % 2) (mod-lt a (omega arith)) c,
    ) refl

pub product_fits : (n a b : ℕ) → a < 256 → bitwise_product n a b < 256
unfolding bitwise_product
product_fits zero a b h = omega arith
product_fits (suc n) a b h =
    plus_fits (twice (bitwise_product n a (b / 2))) (b % 2 * a) (twice_fits (bitwise_product n a (b / 2)))
    (bit_fits (b % 2) (mod-lt b (omega arith)) a h)

-- every element is itself times one
one_test : ℕ → Bool
one_test a = eqb (bitwise_product 8 1 a) a

one_passes : T (every one_test 256)
unfolding one_test bitwise_product twice reduced plus
one_passes = tt

pub product_one : (a : ℕ) → a < 256 → bitwise_product 8 1 a ≡ a
unfolding one_test
product_one a h = eqb→eq (bitwise_product 8 1 a) a (at one_test 256 one_passes a h)
