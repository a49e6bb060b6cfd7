-- The weight of a word: in how many places it is not zero.
-- Assumes nothing.
use Rattle.std.proofs.Common.{◌≡◌, ℕ, zero, suc, ◌<◌, ◌≤◌, ◌≢◌, List, [], ◌∷◌, length, get_or, sym, refl, ◌∙◌, inl, inr, arith}
use Rattle.field256.specs.Field.{times, power}
use Rattle.field256.proofs.Laws.{zero_plus, times_fits, zero_times, no_zero_divisors}
use Rattle.code_theory.specs.Codeword.{Bytes, weight}
use Rattle.code_theory.proofs.Totals.{total, scaled, total_nil, total_cons, scaled_nil, scaled_cons}

pub weight_nil : weight [] ≡ 0
unfolding weight
weight_nil = refl

pub weight_zero : (bs : List ℕ) → weight (0 ∷ bs) ≡ weight bs
unfolding weight
weight_zero bs = refl

pub weight_suc : (b : ℕ) (bs : List ℕ) → weight (suc b ∷ bs) ≡ suc (weight bs)
unfolding weight
weight_suc b bs = refl

pub weight_more : (b : ℕ) (bs : List ℕ) → weight (b ∷ bs) ≤ suc (weight bs)
weight_more zero bs = rw weight_zero (omega arith)
weight_more (suc b) bs = rw weight_suc (omega arith)

pub weight_tail : (b : ℕ) (bs : List ℕ) → weight bs ≤ weight (b ∷ bs)
weight_tail zero bs = rw weight_zero (omega arith)
weight_tail (suc b) bs = rw weight_suc (omega arith)

pub weight_none_head : (b : ℕ) (bs : List ℕ) → weight (b ∷ bs) ≡ 0 → b ≡ 0
weight_none_head zero bs e = refl
weight_none_head (suc b) bs e = absurd (omega (arith, sym (weight_suc b bs) ∙ e))

pub weight_none_tail : (b : ℕ) (bs : List ℕ) → weight (b ∷ bs) ≡ 0 → weight bs ≡ 0
weight_none_tail b bs e = omega (arith, weight_tail b bs)

-- a word of weight zero is zero in every place
pub weightless : (w : List ℕ) → weight w ≡ 0 → (k : ℕ) → get_or w k 0 ≡ 0
weightless [] e k = refl
weightless (b ∷ bs) e zero = weight_none_head b bs e
weightless (b ∷ bs) e (suc k) = weightless bs (weight_none_tail b bs e) k

pub total_weightless : (g : ℕ → ℕ) (w : List ℕ) → weight w ≡ 0 → total g w ≡ 0
total_weightless g [] e = total_nil g
total_weightless g (b ∷ bs) e =
    rw (total_cons, weight_none_head b bs e, zero_times, zero_plus) (total_weightless g bs (weight_none_tail b bs e))

pub weight_scaled : (h : ℕ → ℕ) (w : List ℕ) → weight (scaled h w) ≤ weight w
weight_scaled h [] = rw scaled_nil (omega arith)
weight_scaled h (zero ∷ bs) = rw (scaled_cons, zero_times, weight_zero (scaled h bs), weight_zero bs) (weight_scaled h bs)
weight_scaled h (suc b ∷ bs) =
    rw (scaled_cons, weight_suc b bs)
    (omega (arith, weight_more (times (suc b) (h (power 2 (length bs)))) (scaled h bs), weight_scaled h bs))

-- no byte is lost where h is zero at none of the word's places
pub weight_unscaled : (h : ℕ → ℕ) (w : List ℕ) → Bytes w → ((k : ℕ) → h (power 2 k) < 256)
    → ((k : ℕ) → k < length w → h (power 2 k) ≢ 0) → weight (scaled h w) ≡ 0 → weight w ≡ 0
weight_unscaled h [] f fit apart e = weight_nil
weight_unscaled h (b ∷ bs) f fit apart e =
    let e' : weight (times b (h (power 2 (length bs))) ∷ scaled h bs) ≡ 0 = rw scaled_cons at e in
    elim (no_zero_divisors b (h (power 2 (length bs))) (f 0) (fit (length bs)) (weight_none_head _ _ e')) [
      | inl z ↦ rw (z, weight_zero) (weight_unscaled h bs (λ k. f (suc k)) fit (λ k l. apart k (omega arith)) (weight_none_tail _ _ e'))
      | inr z ↦ absurd (apart (length bs) (omega arith) z)
    ]

pub bytes_scaled : (h : ℕ → ℕ) (w : List ℕ) → Bytes (scaled h w)
bytes_scaled h [] k = rw scaled_nil (omega arith)
bytes_scaled h (b ∷ bs) zero = rw scaled_cons (times_fits b (h (power 2 (length bs))))
bytes_scaled h (b ∷ bs) (suc k) = rw scaled_cons (bytes_scaled h bs k)
