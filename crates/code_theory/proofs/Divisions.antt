-- A polynomial divided by x less an element, coefficient by coefficient from the highest down.
-- Assumes nothing.
use Rattle.std.proofs.Common.{◌≡◌, ℕ, zero, suc, ◌<◌, ◌≢◌, List, get_or, sym, ap, ◌∙◌, inl, inr, arith}
use Rattle.field256.specs.Field.{plus, times, power}
use Rattle.field256.proofs.Laws.{plus_assoc, plus_comm, plus_self, plus_zero, zero_plus, plus_cancel, plus_same, plus_times, times_plus, times_assoc, times_comm, times_left_comm, times_zero, zero_times, times_one, power_zero, power_suc, no_zero_divisors, times_fits}
use Rattle.code_theory.specs.Codeword.{Bytes}
use Rattle.code_theory.specs.Sequences.{polynomial}
use Rattle.code_theory.proofs.Locating.{polynomial_none, polynomial_more}

twice_gone : (a b c : ℕ) → plus (plus a b) (plus c b) ≡ plus a c
twice_gone a b c =
    plus_assoc a b (plus c b) ∙ ap (plus a) (ap (plus b) (plus_comm c b) ∙ plus_cancel b c)

-- the sums of one more coefficient, P and Q so far
one_more : (P Q B x y Y p q t : ℕ) → t ≡ times (plus p (times x q)) Y → plus P (times x t) ≡ plus B (times (plus y x) Q)
    → plus (plus P (times p (times y Y))) (times x (times q (times y Y))) ≡ plus B (times (plus y x) (plus Q t))
one_more P Q B x y Y p q t is e =
    let left : plus (plus P (times p (times y Y))) (times x (times q (times y Y))) ≡ plus P (times y t)
    = rw is (simp (plus_times, times_plus, plus_assoc, times_assoc, times_comm, times_left_comm)) in
    let right : plus B (times (plus y x) (plus Q t)) ≡ plus P (times y t)
    = ap (plus B) (times_plus (plus y x) Q t) ∙ sym (plus_assoc B (times (plus y x) Q) (times (plus y x) t))
    ∙ rw (← e, plus_times y x t) (twice_gone P (times x t) (times y t)) in
    left ∙ sym right

module _ (p q : List ℕ) (x : ℕ) (f : Bytes p) (steps : (j : ℕ) → get_or q j 0 ≡ plus (get_or p (suc j) 0) (times x (get_or q (suc j) 0))) where
  part : (n y : ℕ) → plus (polynomial (suc n) p y) (times x (times (get_or q n 0) (power y n)))
      ≡ plus (plus (get_or p 0 0) (times x (get_or q 0 0))) (times (plus y x) (polynomial n q y))
  part zero y =
      rw (
        polynomial_more 0 p y,
        polynomial_none p y,
        polynomial_none q y,
        power_zero,
        zero_plus,
        times_zero,
        plus_zero,
        times_one (get_or p 0 0) (f 0),
        ← times_assoc x (get_or q 0 0) 1,
        times_one (times x (get_or q 0 0)) (times_fits x (get_or q 0 0)),
      )
  part (suc n) y =
      rw (polynomial_more (suc n) p y, polynomial_more n q y, power_suc y n)
      (one_more (polynomial (suc n) p y) (polynomial n q y) (plus (get_or p 0 0) (times x (get_or q 0 0))) x y (power y n)
      (get_or p (suc n) 0) (get_or q (suc n) 0) (times (get_or q n 0) (power y n))
      (ap (λ (c : ℕ). times c (power y n)) (steps n)) (part n y))

  pub divided : (n : ℕ) → get_or q n 0 ≡ 0 → (y : ℕ) → polynomial (suc n) p y
      ≡ plus (plus (get_or p 0 0) (times x (get_or q 0 0))) (times (plus y x) (polynomial (suc n) q y))
  divided n z y =
      sym (rw (z, zero_times, times_zero) (plus_zero (polynomial (suc n) p y)))
      ∙ part n y
      ∙ rw (polynomial_more n q y, z, zero_times, plus_zero)

  pub remainder : (n : ℕ) → get_or q n 0 ≡ 0 → plus (get_or p 0 0) (times x (get_or q 0 0)) ≡ polynomial (suc n) p x
  remainder n z = sym (divided n z x ∙ rw (plus_self x, zero_times) (plus_zero (plus (get_or p 0 0) (times x (get_or q 0 0)))))

-- a root of the dividend, other than x, is one of the quotient, where x is a root
pub other_root : (P Q x y : ℕ) → Q < 256 → plus y x < 256 → P ≡ plus 0 (times (plus y x) Q) → P ≡ 0 → y ≢ x → Q ≡ 0
other_root P Q x y fq f e z apart =
    elim (no_zero_divisors (plus y x) Q f fq (sym (zero_plus (times (plus y x) Q)) ∙ sym e ∙ z))
    [ inl same ↦ absurd (apart (plus_same y x same)) | inr none ↦ none ]

-- a polynomial of degree zero is its lowest coefficient everywhere
pub constant : (n : ℕ) (p : List ℕ) (y : ℕ) → Bytes p → ((j : ℕ) → 0 < j → get_or p j 0 ≡ 0) → polynomial (suc n) p y ≡ get_or p 0 0
constant zero p y f z = rw (polynomial_more 0 p y, polynomial_none p y, zero_plus, power_zero) (times_one (get_or p 0 0) (f 0))
constant (suc n) p y f z =
    rw (polynomial_more (suc n) p y, z (suc n) (omega arith), zero_times, plus_zero) (constant n p y f z)
