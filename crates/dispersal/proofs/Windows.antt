-- Windows of the sequence, and how they move on. Assumes nothing.
use Rattle.std.proofs.Common.{◌≡◌, ℕ, zero, suc, ◌+◌, ◌-◌, ◌*◌, ◌/◌, ◌%◌, ◌^◌, ◌<◌, List, [], ◌∷◌, get_or, sym, refl, ap, ◌∙◌, ap₂, add-zero, mul_assoc, pow-suc, mul-one, arith}
use lib.Bits.{bit_xor}
use Rattle.std.proofs.lemmas.Nat.{pow-add, pow_pos, shr_high, mod_low, shr_below, mod_below, mul-add-lt, xor_lt}
use Rattle.dispersal.specs.Stages.{bits}
use Rattle.dispersal.proofs.Recurring.{bit, bit_below, bits_recur}

-- one bit more
bits_more : (t n : ℕ) → bits t (suc n) ≡ 2 * bits t n + bit (t + n)
unfolding bits bit
bits_more t n = refl

pub bits_below : (t n : ℕ) → bits t n < 2 ^ n
unfolding bits
bits_below t zero = omega arith
bits_below t (suc n) = rw bits_more (omega (arith, bits_below t n, bit_below (t + n), pow-suc 2 n))

bits_join_more : (t a b : ℕ) → bits t (a + b) ≡ bits t a * 2 ^ b + bits (t + a) b → bits t (a + suc b) ≡ bits t a * 2 ^ suc b + bits (t + a) (suc b)
bits_join_more t a b joined =
    let more : a + suc b ≡ suc (a + b) = omega arith in
    let place : t + (a + b) ≡ t + a + b = omega arith in
    let here : bit (t + (a + b)) ≡ bit (t + a + b) = ap (λ (i : ℕ). bit i) place in
    let moved : bits t a * 2 ^ suc b ≡ bits t a * 2 ^ b * 2 =
    ap (λ (x : ℕ). bits t a * x) (pow-suc 2 b) ∙ sym (mul_assoc (bits t a) (2 ^ b) 2) in
    ap (λ (n : ℕ). bits t n) more ∙ omega (arith, bits_more t (a + b), bits_more (t + a) b, joined, here, moved)

-- some bits and the bits behind them
pub bits_join : (t a b : ℕ) → bits t (a + b) ≡ bits t a * 2 ^ b + bits (t + a) b
unfolding bits
bits_join t a zero = rw (add-zero, add-zero, mul-one) refl
bits_join t a (suc b) = bits_join_more t a b (bits_join t a b)

-- the first bits of more, the last ones, and those in between
pub high : (t a b : ℕ) → bits t (a + b) / 2 ^ b ≡ bits t a
high t a b = ap (λ (x : ℕ). x / 2 ^ b) (bits_join t a b) ∙ shr_high (bits t a) b (bits (t + a) b) (bits_below (t + a) b)

pub low : (t a b : ℕ) → bits t (a + b) % 2 ^ b ≡ bits (t + a) b
low t a b = ap (λ (x : ℕ). x % 2 ^ b) (bits_join t a b) ∙ mod_low (bits t a) b (bits (t + a) b) (bits_below (t + a) b)

pub between : (t a b c : ℕ) → bits t (a + b + c) / 2 ^ c % 2 ^ b ≡ bits (t + a) b
between t a b c = ap (λ (x : ℕ). x % 2 ^ b) (high t (a + b) c) ∙ low t a b

-- what enters behind a window of which the first k bits go; i bits stand behind its first k bits and a byte
abbrev pub entering : ℕ → ℕ → ℕ → ℕ
entering k i w = bit_xor (w / 2 ^ (i + 8)) (w / 2 ^ i % 2 ^ k)

-- the window then
abbrev pub passed : ℕ → ℕ → ℕ → ℕ
passed k i w = w % 2 ^ (i + 8) * 2 ^ k + entering k i w

pub entering_below : (k i w : ℕ) → w < 2 ^ (k + (i + 8)) → entering k i w < 2 ^ k
entering_below k i w h =
    xor_lt k (w / 2 ^ (i + 8)) (w / 2 ^ i % 2 ^ k) (shr_below w k (i + 8) h) (mod_below (w / 2 ^ i) (2 ^ k) (pow_pos k))

pub passed_below : (k i w : ℕ) → w < 2 ^ (k + (i + 8)) → passed k i w < 2 ^ (i + 8 + k)
passed_below k i w h =
    let room = mul-add-lt (w % 2 ^ (i + 8)) (2 ^ k) (entering k i w) (2 ^ (i + 8)) (mod_below w (2 ^ (i + 8)) (pow_pos (i + 8))) (entering_below k i w h) in
    rw (pow-add 2 (i + 8) k, native.Mathlib.Nat.mul_comm (2 ^ (i + 8)) (2 ^ k)) room

module _ (t k i w : ℕ) (whole : k + (i + 8) ≡ 120) (window : w ≡ bits t (k + (i + 8))) where
  pub first_bits : w / 2 ^ (i + 8) ≡ bits t k
  first_bits = ap (λ (x : ℕ). x / 2 ^ (i + 8)) window ∙ high t k (i + 8)

  next_bits : w / 2 ^ i % 2 ^ k ≡ bits (t + 8) k
  next_bits =
      let same : k + (i + 8) ≡ 8 + k + i = omega arith in
      ap (λ (x : ℕ). x / 2 ^ i % 2 ^ k) (window ∙ ap (λ (n : ℕ). bits t n) same) ∙ between t 8 k i

  pub moved_on : passed k i w ≡ bits (t + k) (i + 8 + k)
  moved_on =
      let kept : w % 2 ^ (i + 8) ≡ bits (t + k) (i + 8) = ap (λ (x : ℕ). x % 2 ^ (i + 8)) window ∙ low t k (i + 8) in
      let place : t + 120 ≡ t + k + (i + 8) = omega arith in
      let entered : bit_xor (w / 2 ^ (i + 8)) (w / 2 ^ i % 2 ^ k) ≡ bits (t + k + (i + 8)) k =
      ap₂ (λ (x y : ℕ). bit_xor x y) first_bits next_bits ∙ (sym (bits_recur t k) ∙ ap (λ (p : ℕ). bits p k) place) in
      ap₂ (λ (x y : ℕ). x * 2 ^ k + y) kept entered ∙ sym (bits_join (t + k) (i + 8) k)

-- the low m bytes of a number, highest first
abbrev pub octets : ℕ → ℕ → List ℕ
octets zero x = []
octets (suc m) x = x / 2 ^ (8 * m) % 2 ^ 8 ∷ octets m x

octet_at : (m k x : ℕ) → k < m → get_or (octets m x) k 0 ≡ x / 2 ^ (8 * (m - 1 - k)) % 2 ^ 8
octet_at zero k x h = absurd (omega arith)
octet_at (suc m) zero x h = let same : m ≡ suc m - 1 - 0 = omega arith in ap (λ (j : ℕ). x / 2 ^ (8 * j) % 2 ^ 8) same
octet_at (suc m) (suc k) x h =
    let same : m - 1 - k ≡ suc m - 1 - suc k = omega arith in
    octet_at m k x (omega arith) ∙ ap (λ (j : ℕ). x / 2 ^ (8 * j) % 2 ^ 8) same

-- a byte of eight
pub octet_bits : (t k x : ℕ) → x ≡ bits t 64 → k < 8 → get_or (octets 8 x) k 0 ≡ bits (t + 8 * k) 8
octet_bits t k x e h =
    let whole : 64 ≡ 8 * k + 8 + 8 * (8 - 1 - k) = omega arith in
    octet_at 8 k x h
    ∙ (ap (λ (y : ℕ). y / 2 ^ (8 * (8 - 1 - k)) % 2 ^ 8) (e ∙ ap (λ (n : ℕ). bits t n) whole) ∙ between t (8 * k) 8 (8 * (8 - 1 - k)))
