-- A polynomial divided by x less an element, and how many roots it can have.
-- Assumes nothing.
use Rattle.std.proofs.Common.{◌≡◌, ℕ, zero, suc, ◌+◌, ◌<◌, ◌≤◌, ◌≢◌, List, [], ◌∷◌, length, get_or, sym, refl, ap, ◌∙◌, arith}
use Rattle.std.proofs.lemmas.List.{get_or_past}
use Rattle.field256.specs.Field.{plus, times}
use Rattle.field256.proofs.Laws.{plus_self, plus_zero, times_zero, plus_fits, times_fits}
use Rattle.code_theory.specs.Codeword.{Bytes}
use Rattle.code_theory.specs.Sequences.{polynomial}
use Rattle.code_theory.proofs.Locating.{polynomial_fits}
use Rattle.code_theory.proofs.Divisions.{divided, remainder, other_root, constant}
use Rattle.locator.specs.Roots.{OfDegree}
use Rattle.locator.specs.Quotients.{horner, quotient_by}

pub length_quotient : (p : List ℕ) (x : ℕ) → length (quotient_by p x) ≡ length p
unfolding quotient_by
length_quotient [] x = refl
length_quotient (b ∷ bs) x = ap suc (length_quotient bs x)

pub quotient_step : (p : List ℕ) (x i : ℕ) → get_or (quotient_by p x) i 0 ≡ plus (get_or p (suc i) 0) (times x (get_or (quotient_by p x) (suc i) 0))
unfolding quotient_by horner
quotient_step [] x i = sym (rw (times_zero x) (plus_self 0))
quotient_step (b ∷ []) x zero = sym (rw (times_zero x) (plus_self 0))
quotient_step (b ∷ (a ∷ bs)) x zero = refl
quotient_step (b ∷ bs) x (suc i) = quotient_step bs x i

-- p divided by y less x
pub record Divided (size : ℕ) (p : List ℕ) (degree x : ℕ) (q : List ℕ) : Type 0 where
  pub whole : (y : ℕ) → polynomial size p y ≡ plus (polynomial size p x) (times (plus y x) (polynomial size q y))
  pub lower : (d : ℕ) → degree ≡ suc d → OfDegree size d q

module _ (last : ℕ) (p : List ℕ) (degree x : ℕ) (h : OfDegree (suc last) degree p) where
  pub above : (k j : ℕ) → suc last ≤ j + k → degree ≤ j → get_or (quotient_by p x) j 0 ≡ 0
  above zero j e l = get_or_past (quotient_by p x) j 0 (omega (arith, length_quotient p x, h.size))
  above (suc k) j e l =
      quotient_step p x j
      ∙ rw (h.top (suc j) (omega arith), above k (suc j) (omega arith) (omega arith), times_zero x) (plus_self 0)

  pub quotient_bytes : Bytes (quotient_by p x)
  quotient_bytes k = rw (quotient_step p x k) (plus_fits _ _ (h.bytes (suc k)) (times_fits x (get_or (quotient_by p x) (suc k) 0)))

  top_zero : get_or (quotient_by p x) last 0 ≡ 0
  top_zero = above 1 last (omega arith) (omega (arith, h.room))

  lowered : (d : ℕ) → degree ≡ suc d → OfDegree (suc last) d (quotient_by p x)
  lowered d e =
      let lead : get_or (quotient_by p x) d 0 ≡ get_or p degree 0
      = quotient_step p x d ∙ rw (above (suc last) (suc d) (omega arith) (omega arith), times_zero x, e) (plus_zero (get_or p (suc d) 0)) in
      record {
        size = length_quotient p x ∙ h.size;
        room = omega (arith, h.room);
        bytes = quotient_bytes;
        top = λ j l. above (suc last) j (omega arith) (omega arith);
        lead = λ z. h.lead (sym lead ∙ z);
      }

  pub division : Divided (suc last) p degree x (quotient_by p x)
  division =
      record {
        whole = λ y. divided p (quotient_by p x) x h.bytes (quotient_step p x) last top_zero y
            ∙ ap (λ (k : ℕ). plus k (times (plus y x) (polynomial (suc last) (quotient_by p x) y)))
            (remainder p (quotient_by p x) x h.bytes (quotient_step p x) last top_zero);
        lower = lowered;
      }

-- another root of the polynomial is one of the quotient by a root
pub root_left : (last : ℕ) (p : List ℕ) (degree x y : ℕ) → OfDegree (suc last) degree p → x < 256 → y < 256 → y ≢ x
    → polynomial (suc last) p x ≡ 0 → polynomial (suc last) p y ≡ 0 → polynomial (suc last) (quotient_by p x) y ≡ 0
root_left last p degree x y h fx fy apart zx zy =
    let d = division last p degree x h in
    other_root (polynomial (suc last) p y) (polynomial (suc last) (quotient_by p x) y) x y (polynomial_fits (suc last) (quotient_by p x) y)
    (plus_fits y x fy fx)
    (d.whole y ∙ ap (λ (k : ℕ). plus k (times (plus y x) (polynomial (suc last) (quotient_by p x) y))) zx) zy apart

-- no more roots than the degree
pub few_roots : (last degree : ℕ) (p : List ℕ) → OfDegree (suc last) degree p → (m : ℕ) (xs : ℕ → ℕ)
    → ((i : ℕ) → i < m → xs i < 256) → ((i j : ℕ) → i < j → j < m → xs i ≢ xs j)
    → ((i : ℕ) → i < m → polynomial (suc last) p (xs i) ≡ 0) → m ≤ degree
few_roots last degree p h zero xs f apart z = omega arith
few_roots last zero p h (suc m) xs f apart z =
    absurd (h.lead (sym (constant last p (xs 0) h.bytes h.top) ∙ z 0 (omega arith)))
few_roots last (suc degree) p h (suc m) xs f apart z =
    let x : ℕ = xs m in
    let d = division last p (suc degree) x h in
    let fewer : m ≤ degree
    = few_roots last degree (quotient_by p x) (d.lower degree refl) m xs (λ i l. f i (omega arith)) (λ i j l k. apart i j l (omega arith))
    (λ i l. root_left last p (suc degree) x (xs i) h (f m (omega arith)) (f i (omega arith)) (apart i m l (omega arith)) (z m (omega arith)) (z i (omega arith))) in
    omega arith
