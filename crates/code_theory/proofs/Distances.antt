-- Two codewords that differ in at most sixteen places are equal, and what follows for correcting.
-- Assumes nothing.
use Rattle.std.proofs.Common.{◌≡◌, ℕ, ◌<◌, ◌≤◌, ◌⊎◌, List, length, sym, ap, ◌∙◌, inl, inr, arith}
use Rattle.field256.specs.Field.{power}
use Rattle.field256.proofs.Laws.{plus_self}
use Rattle.code_theory.specs.Codeword.{Codeword, Bytes, distance}
use Rattle.code_theory.specs.Laws.{DifferIn, OneNear, NoneNear}
use Rattle.code_theory.proofs.Totals.{total, value_total}
use Rattle.code_theory.proofs.Vanishing.{vanishing}
use Rattle.code_theory.proofs.Differences.{difference, length_difference, bytes_difference, total_difference, weight_difference, same_words, distance_triangle}

pub near_same : (c e : List ℕ) → Bytes c → Bytes e → length c ≡ length e → length c ≤ 255
    → Codeword c → Codeword e → distance c e ≤ 16 → c ≡ e
near_same c e f g l short hc he near =
    let d : List ℕ = difference c e in
    let sums : (j : ℕ) → j < 16 → total (λ x. power x j) d ≡ 0
    = λ j h. total_difference (λ x. power x j) c e l
    ∙ rw (← value_total c j f, ← value_total e j g, hc j h, he j h) (plus_self 0) in
    same_words c e l
    (vanishing (length c) 16 d (length_difference c e l) short (bytes_difference c e f g) (rw (weight_difference c e l) near) sums)

over_or : (d n : ℕ) → (d ≤ n) ⊎ (n < d)
over_or d n = search arith

pub differ_in_17 : DifferIn 17
differ_in_17 c e f g l short hc he other =
    elim (over_or (distance c e) 16) [ inl near ↦ absurd (other (near_same c e f g l short hc he near)) | inr far ↦ far ]

pub one_near : (bound : ℕ) → bound ≤ 8 → OneNear bound
one_near bound b w c e f g l m short hc he n k =
    near_same c e f g (sym l ∙ m) (omega arith) hc he (omega (arith, distance_triangle w c e l m))

pub none_near : (bound : ℕ) → bound ≤ 8 → NoneNear bound
none_near bound b w c e f g l m short hc he far within n =
    let same : c ≡ e = near_same c e f g (sym l ∙ m) (omega arith) hc he (omega (arith, distance_triangle w c e l m)) in
    omega (arith, ap (distance w) same)
