-- The laws of the field, over the numbers below 256. Assumes nothing.
use Rattle.std.specs.Prelude.{◌≡◌, ℕ, ◌<◌, ◌≢◌, ◌⊎◌}
use Rattle.field256.specs.Field.{plus, times, power}

pub record FieldLaws : Type 0 where
  pub sums_fit : (a b : ℕ) → a < 256 → b < 256 → plus a b < 256
  pub sums_commute : (a b : ℕ) → plus a b ≡ plus b a
  pub sums_associate : (a b c : ℕ) → plus (plus a b) c ≡ plus a (plus b c)
  pub zero : (a : ℕ) → plus a 0 ≡ a
  pub opposite : (a : ℕ) → plus a a ≡ 0
  pub products_fit : (a b : ℕ) → times a b < 256
  pub products_commute : (a b : ℕ) → times a b ≡ times b a
  pub products_associate : (a b c : ℕ) → times (times a b) c ≡ times a (times b c)
  pub one : (a : ℕ) → a < 256 → times 1 a ≡ a
  pub distribute : (a b c : ℕ) → times a (plus b c) ≡ plus (times a b) (times a c)
  pub inverses : (a : ℕ) → a < 256 → a ≢ 0 → (b : ℕ) × (b < 256) × (times a b ≡ 1)
  pub no_zero_divisors : (a b : ℕ) → a < 256 → b < 256 → times a b ≡ 0 → (a ≡ 0) ⊎ (b ≡ 0)
  -- 02h generates all elements but 0: its first 255 powers are different, and then they begin again
  pub generator_distinct : (i j : ℕ) → power 2 i ≡ power 2 j → i < 255 → j < 255 → i ≡ j
  pub generator_order : power 2 255 ≡ 1
