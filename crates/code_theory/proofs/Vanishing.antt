-- A word with at most m bytes other than zero is zero if its first m power sums are.
-- Assumes nothing.
use Rattle.std.proofs.Common.{◌≡◌, ℕ, zero, suc, ◌<◌, ◌≤◌, ◌≢◌, List, [], ◌∷◌, length, sym, ap, ◌∙◌, arith}
use Rattle.field256.specs.Field.{plus, times, power}
use Rattle.field256.proofs.Laws.{plus_self, plus_zero, zero_plus, plus_same, plus_fits, times_left_comm, plus_times, zero_times, times_one, power_zero, power_suc, power_fits, two_power_distinct}
use Rattle.code_theory.specs.Codeword.{Bytes, weight}
use Rattle.code_theory.proofs.Totals.{total, scaled, total_cons, total_plus, total_times, total_same, total_scaled, length_scaled}
use Rattle.code_theory.proofs.Weights.{weight_nil, weight_zero, weight_suc, weight_scaled, weight_unscaled, bytes_scaled, total_weightless}

-- the power sums of the word with each byte multiplied by (x + a)
sums_apart : (a : ℕ) (w : List ℕ) (j : ℕ) →
    total (λ x. power x j) (scaled (λ x. plus x a) w) ≡ plus (total (λ x. power x (suc j)) w) (times a (total (λ x. power x j) w))
sums_apart a w j =
    total_scaled (λ x. power x j) (λ x. plus x a) w
    ∙ total_same _ _ w (λ x. plus_times x a (power x j) ∙ ap (λ (p : ℕ). plus p (times a (power x j))) (sym (power_suc x j)))
    ∙ total_plus (λ x. power x (suc j)) (λ x. times a (power x j)) w
    ∙ ap (plus (total (λ x. power x (suc j)) w)) (total_times a (λ x. power x j) w)

-- the power sums of the bytes after the first, where those of the whole word are zero
tail_sum : (b : ℕ) (bs : List ℕ) (j : ℕ) → total (λ x. power x j) (b ∷ bs) ≡ 0
    → total (λ x. power x j) bs ≡ times b (power (power 2 (length bs)) j)
tail_sum b bs j e = sym (plus_same _ _ (rw total_cons at e))

-- then the place of the first byte can be taken out
taken_out : (b : ℕ) (bs : List ℕ) (j : ℕ) → total (λ x. power x j) (b ∷ bs) ≡ 0 → total (λ x. power x (suc j)) (b ∷ bs) ≡ 0
    → total (λ x. power x j) (scaled (λ x. plus x (power 2 (length bs))) bs) ≡ 0
taken_out b bs j e e' =
    sums_apart (power 2 (length bs)) bs j
    ∙ rw (tail_sum b bs j e, tail_sum b bs (suc j) e', power_suc, times_left_comm b (power 2 (length bs)))
    (plus_self (times (power 2 (length bs)) (times b (power (power 2 (length bs)) j))))

-- the places after the first are others
others : (n : ℕ) → n < 255 → (k : ℕ) → k < n → plus (power 2 k) (power 2 n) ≢ 0
others n h k l e =
    let same : k ≡ n = two_power_distinct k n (plus_same _ _ e) (omega arith) h in omega arith

one_byte : (b : ℕ) (bs : List ℕ) → b < 256 → weight bs ≡ 0 → total (λ x. power x 0) (b ∷ bs) ≡ 0 → b ≡ 0
one_byte b bs h e s =
    sym (rw (total_cons, total_weightless (λ x. power x 0) bs e, power_zero, plus_zero) (times_one b h)) ∙ s

pub vanishing : (n m : ℕ) (w : List ℕ) → length w ≡ n → n ≤ 255 → Bytes w → weight w ≤ m
    → ((j : ℕ) → j < m → total (λ x. power x j) w ≡ 0) → weight w ≡ 0
vanishing n m [] l short f h s = weight_nil
vanishing zero m (b ∷ bs) l short f h s = absurd (omega arith)
vanishing (suc n) m (zero ∷ bs) l short f h s =
    weight_zero bs
    ∙ vanishing n m bs (omega arith) (omega arith) (λ k. f (suc k)) (rw weight_zero at h)
    (λ j k. sym (rw (total_cons, zero_times, zero_plus)) ∙ s j k)
vanishing (suc n) zero (suc b ∷ bs) l short f h s = absurd (omega (arith, rw weight_suc at h))
vanishing (suc n) (suc m) (suc b ∷ bs) l short f h s =
    let X : ℕ = power 2 (length bs) in
    let rest : List ℕ = scaled (λ x. plus x X) bs in
    let light : weight rest ≤ m = omega (arith, weight_scaled (λ x. plus x X) bs, rw weight_suc at h) in
    let none : weight rest ≡ 0
    = vanishing n m rest (length_scaled (λ x. plus x X) bs ∙ omega arith) (omega arith) (bytes_scaled (λ x. plus x X) bs) light
    (λ j k. taken_out (suc b) bs j (s j (omega arith)) (s (suc j) (omega arith))) in
    let clear : weight bs ≡ 0
    = weight_unscaled (λ x. plus x X) bs (λ k. f (suc k)) (λ k. plus_fits _ _ (power_fits 2 k) (power_fits 2 (length bs)))
    (others (length bs) (omega arith)) none in
    absurd (omega (arith, one_byte (suc b) bs (f 0) clear (s 0 (omega arith))))
