-- Sums over the places of a word. The place of a byte is the power of 02h that its coefficient stands at.
-- Assumes nothing.
use Rattle.std.proofs.Common.{◌≡◌, ℕ, suc, ◌<◌, List, [], ◌∷◌, length, sym, refl, ap, ◌∙◌, mul_comm, arith}
use Rattle.field256.specs.Field.{plus, times, power}
use Rattle.field256.proofs.Laws.{plus_assoc, plus_comm, plus_left_comm, plus_zero, zero_plus, times_assoc, times_left_comm, times_plus, plus_times, zero_times, times_zero, times_one, power_mul, power_suc, power_zero, plus_fits, times_fits}
use Rattle.code_theory.specs.Codeword.{value, value_from, Bytes}

-- the sum over a word's places of the byte times g at its place
pub total : (ℕ → ℕ) → List ℕ → ℕ
total g [] = 0
total g (b ∷ bs) = plus (times b (g (power 2 (length bs)))) (total g bs)

-- the word with each byte multiplied by h at its place
pub scaled : (ℕ → ℕ) → List ℕ → List ℕ
scaled h [] = []
scaled h (b ∷ bs) = times b (h (power 2 (length bs))) ∷ scaled h bs

pub total_nil : (g : ℕ → ℕ) → total g [] ≡ 0
unfolding total
total_nil g = refl

pub total_cons : (g : ℕ → ℕ) (b : ℕ) (bs : List ℕ) → total g (b ∷ bs) ≡ plus (times b (g (power 2 (length bs)))) (total g bs)
unfolding total
total_cons g b bs = refl

pub scaled_nil : (h : ℕ → ℕ) → scaled h [] ≡ []
unfolding scaled
scaled_nil h = refl

pub scaled_cons : (h : ℕ → ℕ) (b : ℕ) (bs : List ℕ) → scaled h (b ∷ bs) ≡ times b (h (power 2 (length bs))) ∷ scaled h bs
unfolding scaled
scaled_cons h b bs = refl

pub total_plus : (g h : ℕ → ℕ) (w : List ℕ) → total (λ x. plus (g x) (h x)) w ≡ plus (total g w) (total h w)
total_plus g h [] = simp (total_nil, plus_zero)
total_plus g h (b ∷ bs) = rw (total_cons, total_cons g, total_cons h, total_plus g h bs) (simp (times_plus, plus_assoc, plus_comm, plus_left_comm))

pub total_times : (c : ℕ) (g : ℕ → ℕ) (w : List ℕ) → total (λ x. times c (g x)) w ≡ times c (total g w)
total_times c g [] = simp (total_nil, times_zero)
total_times c g (b ∷ bs) = rw (total_cons, total_cons g, total_times c g bs) (simp (times_plus, times_left_comm))

pub total_same : (g h : ℕ → ℕ) (w : List ℕ) → ((x : ℕ) → g x ≡ h x) → total g w ≡ total h w
total_same g h [] e = simp total_nil
total_same g h (b ∷ bs) e = rw (total_cons g, total_cons h, e (power 2 (length bs)), total_same g h bs e)

pub length_scaled : (h : ℕ → ℕ) (w : List ℕ) → length (scaled h w) ≡ length w
unfolding scaled
length_scaled h [] = refl
length_scaled h (b ∷ bs) = ap suc (length_scaled h bs)

pub total_scaled : (g h : ℕ → ℕ) (w : List ℕ) → total g (scaled h w) ≡ total (λ x. times (h x) (g x)) w
total_scaled g h [] = rw (scaled_nil, total_nil g, total_nil)
total_scaled g h (b ∷ bs) =
    rw (scaled_cons, total_cons g, total_cons (λ (x : ℕ). times (h x) (g x)), length_scaled h bs, total_scaled g h bs, times_assoc)

power_swap : (i j : ℕ) → power (power 2 i) j ≡ power (power 2 j) i
power_swap i j = sym (power_mul 2 i j) ∙ ap (power 2) (mul_comm i j) ∙ power_mul 2 j i

value_from_cons : (acc b : ℕ) (bs : List ℕ) (x : ℕ) → value_from acc (b ∷ bs) x ≡ value_from (plus (times acc x) b) bs x
unfolding value_from
value_from_cons acc b bs x = refl

value_from_nil : (acc x : ℕ) → value_from acc [] x ≡ acc
unfolding value_from
value_from_nil acc x = refl

value_from_total : (acc : ℕ) (w : List ℕ) (j : ℕ) → acc < 256 → Bytes w →
    value_from acc w (power 2 j) ≡ plus (times acc (power (power 2 j) (length w))) (total (λ x. power x j) w)
value_from_total acc [] j h f =
    rw (value_from_nil, total_nil, power_zero, plus_zero, times_one acc h)
value_from_total acc (b ∷ bs) j h f =
    rw (value_from_cons, value_from_total (plus (times acc (power 2 j)) b) bs j (plus_fits _ b (times_fits acc (power 2 j)) (f 0)) (λ k. f (suc k)), total_cons, power_swap (length bs) j, power_suc)
    (simp (plus_times, plus_assoc, times_assoc))

pub value_total : (w : List ℕ) (j : ℕ) → Bytes w → value w (power 2 j) ≡ total (λ x. power x j) w
unfolding value
value_total w j f = value_from_total 0 w j (omega arith) f ∙ rw (zero_times, zero_plus)
