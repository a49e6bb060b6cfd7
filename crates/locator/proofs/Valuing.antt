-- The sum over a word of which one byte counts.
-- Assumes nothing.
use Rattle.std.proofs.Common.{◌≡◌, ℕ, zero, suc, ◌-◌, ◌<◌, ◌≢◌, List, [], ◌∷◌, length, get_or, sym, ap, ◌∙◌, arith}
use Rattle.field256.specs.Field.{times, power}
use Rattle.field256.proofs.Laws.{plus_zero, zero_plus}
use Rattle.code_theory.specs.Sequences.{place}
use Rattle.code_theory.proofs.Totals.{total, total_nil, total_cons}

total_none : (g : ℕ → ℕ) (w : List ℕ) → ((i : ℕ) → i < length w → times (get_or w i 0) (g (place (length w) i)) ≡ 0) → total g w ≡ 0
total_none g [] z = total_nil g
total_none g (b ∷ bs) z =
    let here : suc (length bs) - 1 - 0 ≡ length bs = omega arith in
    let head : times b (g (power 2 (length bs))) ≡ 0 = ap (λ (e : ℕ). times b (g (power 2 e))) (sym here) ∙ z 0 (omega arith) in
    rw (total_cons, head, zero_plus)
    (total_none g bs (λ i l.
    let next : suc (length bs) - 1 - suc i ≡ length bs - 1 - i = omega arith in
    ap (λ (e : ℕ). times (get_or bs i 0) (g (power 2 e))) (sym next) ∙ z (suc i) (omega arith)))

pub total_single : (g : ℕ → ℕ) (w : List ℕ) (k : ℕ) → k < length w
    → ((i : ℕ) → i < length w → i ≢ k → times (get_or w i 0) (g (place (length w) i)) ≡ 0)
    → total g w ≡ times (get_or w k 0) (g (place (length w) k))
total_single g [] k h z = absurd (omega arith)
total_single g (b ∷ bs) zero h z =
    let here : suc (length bs) - 1 - 0 ≡ length bs = omega arith in
    total_cons g b bs
    ∙ rw (
      total_none g bs (λ i l.
          let next : suc (length bs) - 1 - suc i ≡ length bs - 1 - i = omega arith in
          ap (λ (e : ℕ). times (get_or bs i 0) (g (power 2 e))) (sym next) ∙ z (suc i) (omega arith) (λ e. omega arith)),
      plus_zero,
      here,
    )
total_single g (b ∷ bs) (suc k) h z =
    let here : suc (length bs) - 1 - 0 ≡ length bs = omega arith in
    let there : suc (length bs) - 1 - suc k ≡ length bs - 1 - k = omega arith in
    let head : times b (g (power 2 (length bs))) ≡ 0
    = ap (λ (e : ℕ). times b (g (power 2 e))) (sym here) ∙ z 0 (omega arith) (λ e. omega arith) in
    rw (total_cons, head, zero_plus, there)
    (total_single g bs k (omega arith) (λ i l other.
    let next : suc (length bs) - 1 - suc i ≡ length bs - 1 - i = omega arith in
    ap (λ (e : ℕ). times (get_or bs i 0) (g (power 2 e))) (sym next) ∙ z (suc i) (omega arith) (λ e. other (omega arith))))
