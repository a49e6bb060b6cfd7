-- The laws of the product, of all numbers but for one.
-- Assumes nothing.
use Rattle.std.proofs.Common.{◌≡◌, ℕ, ◌%◌, ◌<◌, sym, refl, ap, ◌∙◌, mod-eq_of_lt, arith}
use Rattle.field256.specs.Field.{plus, bitwise_product, times}
use Rattle.field256.proofs.Products.{product_zero, product_plus, product_product, product_fits, product_one}
use Rattle.field256.proofs.Sums.{plus_mod}

low : (a : ℕ) → a % 256 < 256
low a = omega arith

pub times_fits : (a b : ℕ) → times a b < 256
unfolding times
times_fits a b = product_fits 8 (a % 256) (b % 256) (low a)

by_one : (a b : ℕ) → times a b ≡ bitwise_product 8 (bitwise_product 8 1 (a % 256)) (b % 256)
unfolding times
by_one a b = rw (product_one (a % 256) (low a))

pub times_comm : (a b : ℕ) → times a b ≡ times b a
times_comm a b = by_one a b ∙ product_product 8 8 1 (a % 256) (b % 256) ∙ sym (by_one b a)

twofold : (a b c : ℕ) → times (times a b) c ≡ bitwise_product 8 (bitwise_product 8 (a % 256) (b % 256)) (c % 256)
unfolding times
twofold a b c =
    ap (λ (x : ℕ). bitwise_product 8 x (c % 256)) (mod-eq_of_lt (product_fits 8 (a % 256) (b % 256) (low a)))

times_right_comm : (a b c : ℕ) → times (times a b) c ≡ times (times a c) b
times_right_comm a b c = twofold a b c ∙ product_product 8 8 (a % 256) (b % 256) (c % 256) ∙ sym (twofold a c b)

pub times_assoc : (a b c : ℕ) → times (times a b) c ≡ times a (times b c)
times_assoc a b c =
    ap (λ (x : ℕ). times x c) (times_comm a b) ∙ times_right_comm b a c ∙ times_comm (times b c) a

pub times_left_comm : (a b c : ℕ) → times a (times b c) ≡ times b (times a c)
times_left_comm a b c = sym (times_assoc a b c) ∙ ap (λ (x : ℕ). times x c) (times_comm a b) ∙ times_assoc b a c

pub plus_times : (a b c : ℕ) → times (plus a b) c ≡ plus (times a c) (times b c)
unfolding times
plus_times a b c =
    ap (λ (x : ℕ). bitwise_product 8 x (c % 256)) (plus_mod a b 8) ∙ product_plus 8 (a % 256) (b % 256) (c % 256)

pub times_plus : (a b c : ℕ) → times a (plus b c) ≡ plus (times a b) (times a c)
times_plus a b c = times_comm a (plus b c) ∙ plus_times b c a ∙ rw (times_comm b a, times_comm c a) refl

pub zero_times : (a : ℕ) → times 0 a ≡ 0
unfolding times
zero_times a = product_zero 8 (a % 256)

pub times_zero : (a : ℕ) → times a 0 ≡ 0
times_zero a = times_comm a 0 ∙ zero_times a

pub one_times : (a : ℕ) → a < 256 → times 1 a ≡ a
unfolding times
one_times a h = product_one (a % 256) (low a) ∙ mod-eq_of_lt h

pub times_one : (a : ℕ) → a < 256 → times a 1 ≡ a
times_one a h = times_comm a 1 ∙ one_times a h
