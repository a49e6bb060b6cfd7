-- The byte at one place, by the quotient that is zero at every other place.
-- Assumes nothing.
use Rattle.std.proofs.Common.{◌≡◌, ℕ, ◌-◌, ◌<◌, ◌≤◌, ◌≢◌, ◌⊎◌, List, length, get_or, sym, ap, ◌∙◌, inl, inr, arith}
use Rattle.field256.specs.Field.{times, power}
use Rattle.field256.proofs.Laws.{times_comm, times_zero, zero_times, times_one, times_cancel, power_zero, power_fits, two_power_distinct}
use Rattle.code_theory.specs.Codeword.{Bytes}
use Rattle.code_theory.specs.Sequences.{Values, place, polynomial, paired}
use Rattle.code_theory.proofs.Locating.{pairing, polynomial_fits}
use Rattle.locator.specs.Roots.{OfDegree, Ordered}
use Rattle.locator.specs.Quotients.{quotient_by, Vanishes, Weighed}
use Rattle.locator.specs.Errors.{ZeroElsewhere, error_value, Meets}
use Rattle.locator.proofs.Dividing.{division, root_left, few_roots}
use Rattle.locator.proofs.Interpolating.{met}
use Rattle.locator.proofs.Valuing.{total_single}

zero_or : (a : ℕ) → (a ≡ 0) ⊎ (a ≢ 0)
zero_or a = search arith

order_or : (i k : ℕ) → i ≢ k → (i < k) ⊎ (k < i)
order_or i k h = search arith

-- the power that the m-th place of a list stands for
abbrev points : ℕ → List ℕ → ℕ → ℕ
points n list m = place n (get_or list m 0)

module _ (n count : ℕ) (list : List ℕ) (order : Ordered n count list) where
  -- two places of the list are apart
  pub places_apart : (i k : ℕ) → i < count → k < count → i ≢ k → get_or list i 0 ≢ get_or list k 0
  places_apart i k a b other e =
      elim (order_or i k other)
      [ inl l ↦ omega (arith, order.rising i k l b) | inr l ↦ omega (arith, order.rising k i l a) ]

  points_apart : n ≤ 255 → (i k : ℕ) → i < count → k < count → i ≢ k → points n list i ≢ points n list k
  points_apart short i k a b other e =
      let same : n - 1 - get_or list i 0 ≡ n - 1 - get_or list k 0
      = two_power_distinct (n - 1 - get_or list i 0) (n - 1 - get_or list k 0) e (omega arith) (omega arith) in
      places_apart i k a b other (omega (arith, order.within i a, order.within k b))

  module _ (s : List ℕ) (sixteen : length s ≡ 16) (p : List ℕ) (h : Vanishes n count list p) (room : count ≤ 16) (k : ℕ) (inside : k < count)
      (short : n ≤ 255) where
    fits : (i : ℕ) → points n list i < 256
    fits i = power_fits 2 (n - 1 - get_or list i 0)

    -- zero at every other place
    pub elsewhere : (i : ℕ) → i < count → i ≢ k → polynomial 17 (quotient_by p (points n list k)) (points n list i) ≡ 0
    elsewhere i l other =
        root_left 16 p count (points n list k) (points n list i) h.shape (fits k) (fits i) (points_apart short i k l inside other) (h.zeros k inside) (h.zeros i l)

    pub lower : OfDegree 17 (count - 1) (quotient_by p (points n list k))
    lower = (division 16 p count (points n list k) h.shape).lower (count - 1) (omega arith)

    -- and not here: it would have more roots than its degree
    pub here : polynomial 17 (quotient_by p (points n list k)) (points n list k) ≢ 0
    here z =
        let all : (i : ℕ) → i < count → polynomial 17 (quotient_by p (points n list k)) (points n list i) ≡ 0
        = λ i l. elim (same_or i k) [ inl e ↦ rw e z | inr other ↦ elsewhere i l other ] in
        omega (
          arith,
          few_roots 16 (count - 1) (quotient_by p (points n list k)) lower count (points n list) (λ i l. fits i)
              (λ i j l b. points_apart short i j (omega arith) b (omega arith)) all,
        )
      where
        same_or : (a b : ℕ) → (a ≡ b) ⊎ (a ≢ b)
        same_or a b = search arith

    gone : (w : List ℕ) → length w ≡ n → ZeroElsewhere count list w → (i : ℕ) → i < length w → i ≢ get_or list k 0
        → times (get_or w i 0) (times (polynomial 17 (quotient_by p (points n list k)) (place (length w) i)) (power (place (length w) i) 0)) ≡ 0
    gone w e clear i l other =
        elim (zero_or (get_or w i 0)) [
          | inl z ↦ rw z (zero_times _)
          | inr some ↦
              let (m, u, v) = clear i l some in
              let is : place (length w) i ≡ points n list m = rw (e, v) in
              rw (is, elsewhere m u (λ c. other (sym v ∙ ap (λ (a : ℕ). get_or list a 0) c)), zero_times) (times_zero (get_or w i 0))
        ]

    pub byte_weighed : (r : ℕ) → r < 256 → Weighed s p (points n list k) r → (w : List ℕ) → length w ≡ n → Bytes w → Values s w
        → ZeroElsewhere count list w → r ≡ get_or w (get_or list k 0) 0
    byte_weighed r small weighed w e f v clear =
        let G : ℕ = polynomial 17 (quotient_by p (points n list k)) (points n list k) in
        let b : ℕ = get_or w (get_or list k 0) 0 in
        let at : place (length w) (get_or list k 0) ≡ points n list k = rw e in
        let alone : paired 17 (quotient_by p (points n list k)) s 0 ≡ times b G
        = pairing 17 (quotient_by p (points n list k)) s w 0 f v (λ j l. lower.top j (omega arith))
        ∙ total_single _ w (get_or list k 0) (rw e (order.within k inside)) (gone w e clear)
        ∙ rw (at, power_zero, times_one G (polynomial_fits 17 (quotient_by p (points n list k)) (points n list k))) in
        times_cancel G r b (polynomial_fits 17 (quotient_by p (points n list k)) (points n list k)) here small (f (get_or list k 0))
        (times_comm G r ∙ weighed here ∙ alone ∙ times_comm b G)

  -- bytes that are all weighed so have the first values of the sequence
  pub interpolated : (s : List ℕ) → length s ≡ 16 → Bytes s → (p : List ℕ) → Vanishes n count list p → count ≤ 16 → (values : List ℕ)
      → ((k : ℕ) → k < count → Weighed s p (points n list k) (get_or values k 0)) → Meets s n count list values
  unfolding error_value
  interpolated s sixteen sb p h room values weighed short j below =
      met count room (points n list) (λ i l. power_fits 2 (n - 1 - get_or list i 0)) (λ i k l b. points_apart short i k (omega arith) b (omega arith))
      (λ k. quotient_by p (points n list k)) (λ k l. (lower s sixteen p h room k l short).size)
      (λ k l i b. (lower s sixteen p h room k l short).top i (omega arith))
      (λ k i l b other. elsewhere s sixteen p h room k l short i b other) (λ k l. here s sixteen p h room k l short) s sb (λ k. get_or values k 0)
      (λ k l. weighed k l (here s sixteen p h room k l short)) j below
