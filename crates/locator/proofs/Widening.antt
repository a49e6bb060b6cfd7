-- A polynomial multiplied by y less x, one more place at a time.
-- Assumes nothing.
use Rattle.std.proofs.Common.{◌≡◌, ℕ, zero, suc, ◌+◌, ◌-◌, ◌<◌, ◌≤◌, ◌⊎◌, List, ◌∷◌, ◌++◌, length, get_or, set, drop, replicate, sym, refl, ◌∙◌, inl, inr, arith, length-append, length-drop, get_or-drop}
use Rattle.std.proofs.lemmas.List.{get_or_append_left, get_or-append_right}
use Rattle.field256.specs.Field.{plus, times}
use Rattle.field256.proofs.Laws.{plus_assoc, plus_self, plus_zero, zero_plus, plus_fits, times_zero, zero_times, times_fits}
use Rattle.code_theory.specs.Codeword.{Bytes}
use Rattle.code_theory.specs.Sequences.{polynomial, place}
use Rattle.code_theory.proofs.Divisions.{divided}
use Rattle.locator.specs.Roots.{OfDegree}
use Rattle.locator.specs.Quotients.{Vanishes}
use Rattle.locator.proofs.Rooting.{zeros_at}

module _ (p : List ℕ) (degree x : ℕ) (h : OfDegree 17 degree p) (room : degree < 16) (r : List ℕ) (size : length r ≡ 17)
    (lowest : get_or r 0 0 ≡ times x (get_or p 0 0))
    (next : (j : ℕ) → get_or r (suc j) 0 ≡ plus (get_or p j 0) (times x (get_or p (suc j) 0))) where
  widened_bytes : Bytes r
  widened_bytes zero = rw lowest (times_fits x (get_or p 0 0))
  widened_bytes (suc j) = rw (next j) (plus_fits _ _ (h.bytes j) (times_fits x (get_or p (suc j) 0)))

  widened : OfDegree 17 (suc degree) r
  widened =
      record {
        size = size;
        room = omega arith;
        bytes = widened_bytes;
        top = above;
        lead = λ z. h.lead (sym (rw (h.top (suc degree) (omega arith), times_zero x) (plus_zero (get_or p degree 0))) ∙ sym (next degree) ∙ z);
      }
    where
      above : (j : ℕ) → suc degree < j → get_or r j 0 ≡ 0
      above zero l = absurd (omega arith)
      above (suc j) l = next j ∙ rw (h.top j (omega arith), h.top (suc j) (omega arith), times_zero x) (plus_self 0)

  -- the polynomial is the quotient of what it was widened to
  back : (j : ℕ) → get_or p j 0 ≡ plus (get_or r (suc j) 0) (times x (get_or p (suc j) 0))
  back j =
      sym (rw (next j, plus_assoc (get_or p j 0) (times x (get_or p (suc j) 0)) (times x (get_or p (suc j) 0)), plus_self (times x (get_or p (suc j) 0)))
      (plus_zero (get_or p j 0)))

  widened_value : (y : ℕ) → polynomial 17 r y ≡ times (plus y x) (polynomial 17 p y)
  widened_value y =
      divided r p x widened_bytes back 16 (h.top 16 room) y
      ∙ rw (lowest, plus_self (times x (get_or p 0 0))) (zero_plus (times (plus y x) (polynomial 17 p y)))

-- ---- the coefficients that change, and those above them

below_or : (i n : ℕ) → (i < n) ⊎ (n ≤ i)
below_or i n = search arith

module _ (p : List ℕ) (degree x : ℕ) (h : OfDegree 17 degree p) (room : degree < 16) (items : List ℕ) (size : length items ≡ degree + 2)
    (made : (j : ℕ) → j < degree + 2 → get_or items j 0 ≡ plus (get_or (0 ∷ p) j 0) (times x (get_or p j 0))) where
  joined_size : length (items ++ drop (degree + 2) p) ≡ 17
  joined_size = omega (arith, length-append items (drop (degree + 2) p), length-drop (degree + 2) p, h.size)

  joined_lowest : get_or (items ++ drop (degree + 2) p) 0 0 ≡ times x (get_or p 0 0)
  joined_lowest = get_or_append_left items (drop (degree + 2) p) 0 0 (omega arith) ∙ made 0 (omega arith) ∙ zero_plus (times x (get_or p 0 0))

  joined_next : (j : ℕ) → get_or (items ++ drop (degree + 2) p) (suc j) 0 ≡ plus (get_or p j 0) (times x (get_or p (suc j) 0))
  joined_next j = elim (below_or (suc j) (degree + 2)) [
    | inl l ↦ get_or_append_left items (drop (degree + 2) p) 0 (suc j) (omega arith) ∙ made (suc j) l
    | inr l ↦
        get_or-append_right items (drop (degree + 2) p) (degree + 2) (suc j) 0 size l ∙ get_or-drop (degree + 2) p (suc j - (degree + 2)) 0
        ∙ h.top (degree + 2 + (suc j - (degree + 2))) (omega arith)
        ∙ sym (rw (h.top j (omega arith), h.top (suc j) (omega arith), times_zero x) (plus_self 0))
  ]

  pub joined : OfDegree 17 (suc degree) (items ++ drop (degree + 2) p)
  joined = widened p degree x h room _ joined_size joined_lowest joined_next

  pub joined_value : (y : ℕ) → polynomial 17 (items ++ drop (degree + 2) p) y ≡ times (plus y x) (polynomial 17 p y)
  joined_value = widened_value p degree x h room _ joined_size joined_lowest joined_next

-- ---- the polynomial of the first places of a list

pub vanishes_none : (n : ℕ) (list : List ℕ) → Vanishes n 0 list (set (replicate 17 0) 0 1)
vanishes_none n list =
    record {
      shape = record {
        size = refl;
        room = omega arith;
        bytes = first_bytes;
        top = first_top;
        lead = λ z. omega arith;
      };
      zeros = λ m l. absurd (omega arith);
    }
  where
    first_bytes : Bytes (set (replicate 17 0) 0 1)
    first_bytes zero = omega arith
    first_bytes (suc k) = rw (zeros_at 16 k) (omega arith)

    first_top : (j : ℕ) → 0 < j → ◌≡◌ {A = ℕ} (get_or (set (replicate 17 0) 0 1) j 0) 0
    first_top zero l = absurd (omega arith)
    first_top (suc j) l = zeros_at 16 j

here_or : (m i : ℕ) → i < suc m → (i ≡ m) ⊎ (i < m)
here_or m i h = search arith

pub vanishes_more : (n m : ℕ) (list p r : List ℕ) (x : ℕ) → x ≡ place n (get_or list m 0) → Vanishes n m list p → OfDegree 17 (suc m) r
    → ((y : ℕ) → polynomial 17 r y ≡ times (plus y x) (polynomial 17 p y)) → Vanishes n (suc m) list r
vanishes_more n m list p r x at h shape product =
    record {
      shape = shape;
      zeros = λ i l. elim (here_or m i l) [
        | inl e ↦ rw e (product (place n (get_or list m 0)) ∙ rw (← at, plus_self x) (zero_times (polynomial 17 p x)))
        | inr b ↦ product (place n (get_or list i 0)) ∙ rw (h.zeros i b) (times_zero (plus (place n (get_or list i 0)) x))
      ];
    }
