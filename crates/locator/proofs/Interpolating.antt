-- Values at distinct places, from the first elements of a sequence, as many as there are places: with them a power of x is a sum
-- of polynomials of which each is zero at every place but one.
-- Assumes nothing.
use Rattle.std.proofs.Common.{◌≡◌, ℕ, zero, suc, ◌+◌, ◌<◌, ◌≤◌, ◌≢◌, ◌⊎◌, List, [], ◌∷◌, length, get_or, set, replicate, sym, refl, ap, ◌∙◌, inl, inr, zero-add, arith, length-set, get_or-set_other, get_or-set_same}
use Rattle.field256.specs.Field.{plus, times, power}
use Rattle.field256.proofs.Laws.{plus_assoc, plus_self, plus_zero, plus_same, plus_fits, plus_times, times_assoc, times_comm, times_left_comm, times_zero, zero_times, times_one, one_times, times_fits, power_fits, inverse, times_inverse}
use Rattle.code_theory.specs.Codeword.{Bytes}
use Rattle.code_theory.specs.Sequences.{sum, polynomial, paired}
use Rattle.code_theory.proofs.Locating.{polynomial_fits}
use Rattle.code_theory.proofs.Sums.{sum_none, sum_more, sum_zero, sum_same, sum_plus, sum_times, sum_single}
use Rattle.locator.proofs.Dividing.{few_roots}
use Rattle.locator.proofs.Rooting.{zeros_at}

-- r with c times q added
added : ℕ → List ℕ → List ℕ → List ℕ
added c [] q = []
added c (a ∷ r) [] = a ∷ r
added c (a ∷ r) (b ∷ q) = plus a (times c b) ∷ added c r q

length_added : (c : ℕ) (r q : List ℕ) → length (added c r q) ≡ length r
unfolding added
length_added c [] q = refl
length_added c (a ∷ r) [] = refl
length_added c (a ∷ r) (b ∷ q) = ap suc (length_added c r q)

get_or_added : (c : ℕ) (r q : List ℕ) → length r ≡ length q → (i : ℕ) → get_or (added c r q) i 0 ≡ plus (get_or r i 0) (times c (get_or q i 0))
unfolding added
get_or_added c [] [] e i = sym (rw (times_zero c) (plus_self 0))
get_or_added c [] (b ∷ q) e i = absurd (omega arith)
get_or_added c (a ∷ r) [] e i = absurd (omega arith)
get_or_added c (a ∷ r) (b ∷ q) e zero = refl
get_or_added c (a ∷ r) (b ∷ q) e (suc i) = get_or_added c r q (omega arith) i

-- against any weights of the places
weighted_added : (n c : ℕ) (r q : List ℕ) (g : ℕ → ℕ) → length r ≡ length q
    → sum n (λ i. times (get_or (added c r q) i 0) (g i)) ≡ plus (sum n (λ i. times (get_or r i 0) (g i))) (times c (sum n (λ i. times (get_or q i 0) (g i))))
weighted_added n c r q g e =
    sum_same n _ (λ i. plus (times (get_or r i 0) (g i)) (times c (times (get_or q i 0) (g i))))
    (λ i l. rw (get_or_added c r q e i, plus_times (get_or r i 0) (times c (get_or q i 0)) (g i)) (ap (plus (times (get_or r i 0) (g i))) (times_assoc c (get_or q i 0) (g i))))
    ∙ sum_plus n (λ i. times (get_or r i 0) (g i)) (λ i. times c (times (get_or q i 0) (g i)))
    ∙ ap (plus (sum n (λ i. times (get_or r i 0) (g i)))) (sum_times n c (λ i. times (get_or q i 0) (g i)))

-- a polynomial with more roots than its coefficients can have is zero
module _ (p : List ℕ) (size : length p ≡ 17) (f : Bytes p) (d : ℕ) (room : d ≤ 16) (top : (i : ℕ) → d ≤ i → get_or p i 0 ≡ 0) (xs : ℕ → ℕ)
    (fits : (i : ℕ) → i < d → xs i < 256) (apart : (i j : ℕ) → i < j → j < d → xs i ≢ xs j)
    (zeros : (i : ℕ) → i < d → polynomial 17 p (xs i) ≡ 0) where
  above_zero : (gap e : ℕ) → e + gap ≡ d → (i : ℕ) → e ≤ i → get_or p i 0 ≡ 0
  above_zero zero e s i l = top i (omega arith)
  above_zero (suc gap) e s i l =
      elim (here_or e i l) [
        | inr above ↦ above_zero gap (suc e) (omega arith) i above
        | inl here ↦ elim (zero_or (get_or p e 0)) [
          | inl z ↦ rw here z
          | inr lead ↦
              absurd (omega (
                arith,
                few_roots 16 e p (record { size = size; room = omega arith; bytes = f; top = λ j k. above_zero gap (suc e) (omega arith) j (omega arith); lead = lead })
                    d xs fits apart zeros,
              ))
        ]
      ]
    where
      here_or : (e i : ℕ) → e ≤ i → (i ≡ e) ⊎ (suc e ≤ i)
      here_or e i h = search arith

      zero_or : (a : ℕ) → (a ≡ 0) ⊎ (a ≢ 0)
      zero_or a = search arith

  pub all_zero : (i : ℕ) → get_or p i 0 ≡ 0
  all_zero i = above_zero d 0 (zero-add d) i (omega arith)

-- the power j of x, as a polynomial
single : ℕ → List ℕ
single j = set (replicate 17 0) j 1

single_here : (j : ℕ) → j < 17 → get_or (single j) j 0 ≡ 1
unfolding single
single_here j l = get_or-set_same (replicate 17 0) j 1 0 l

single_other : (j i : ℕ) → i ≢ j → get_or (single j) i 0 ≡ 0
unfolding single
single_other j i o = get_or-set_other (replicate 17 0) j i 1 0 o ∙ zeros_at 17 i

weighted_single : (j : ℕ) (g : ℕ → ℕ) → j < 17 → g j < 256 → sum 17 (λ i. times (get_or (single j) i 0) (g i)) ≡ g j
weighted_single j g l h =
    sum_single 17 (λ i. times (get_or (single j) i 0) (g i)) j l (λ i k o. rw (single_other j i o) (zero_times (g i)))
    ∙ rw (single_here j l) (one_times (g j) h)

-- polynomials Q k, of which each is zero at every place but xs k
module _ (d : ℕ) (room : d ≤ 16) (xs : ℕ → ℕ) (fits : (i : ℕ) → i < d → xs i < 256) (apart : (i j : ℕ) → i < j → j < d → xs i ≢ xs j)
    (Q : ℕ → List ℕ) (size : (k : ℕ) → k < d → length (Q k) ≡ 17) (top : (k : ℕ) → k < d → (i : ℕ) → d ≤ i → get_or (Q k) i 0 ≡ 0)
    (elsewhere : (k i : ℕ) → k < d → i < d → i ≢ k → polynomial 17 (Q k) (xs i) ≡ 0)
    (here : (k : ℕ) → k < d → polynomial 17 (Q k) (xs k) ≢ 0)
    (s : List ℕ) (sb : Bytes s) (ys : ℕ → ℕ)
    (weighed : (k : ℕ) → k < d → times (ys k) (polynomial 17 (Q k) (xs k)) ≡ paired 17 (Q k) s 0)
    (j : ℕ) (below : j < d) where
  factor : ℕ → ℕ
  factor k = times (power (xs k) j) (inverse (polynomial 17 (Q k) (xs k)))

  -- x^j with m of them added, each so that the place it is not zero at becomes a root
  rest : ℕ → List ℕ
  rest zero = single j
  rest (suc m) = added (factor m) (rest m) (Q m)

  length_rest : (m : ℕ) → length (rest m) ≡ 17
  unfolding rest single
  length_rest zero = length-set (replicate 17 0) j 1
  length_rest (suc m) = length_added (factor m) (rest m) (Q m) ∙ length_rest m

  same_size : (m : ℕ) → m < d → length (rest m) ≡ length (Q m)
  same_size m l = length_rest m ∙ sym (size m l)

  rest_bytes : (m : ℕ) → m ≤ d → Bytes (rest m)
  unfolding rest
  rest_bytes zero l i = elim (same_or i j) [ inl e ↦ rw (e, single_here j (omega arith)) (omega arith) | inr o ↦ rw (single_other j i o) (omega arith) ]
    where
      same_or : (a b : ℕ) → (a ≡ b) ⊎ (a ≢ b)
      same_or a b = search arith
  rest_bytes (suc m) l i =
      rw (get_or_added (factor m) (rest m) (Q m) (same_size m l) i)
      (plus_fits _ _ (rest_bytes m (omega arith) i) (times_fits (factor m) (get_or (Q m) i 0)))

  rest_top : (m : ℕ) → m ≤ d → (i : ℕ) → d ≤ i → get_or (rest m) i 0 ≡ 0
  unfolding rest
  rest_top zero l i k = single_other j i (λ e. omega arith)
  rest_top (suc m) l i k =
      get_or_added (factor m) (rest m) (Q m) (same_size m l) i
      ∙ rw (rest_top m (omega arith) i k, top m l i k, times_zero (factor m)) (plus_self 0)

  rest_weighted : (m : ℕ) → m ≤ d → (g : ℕ → ℕ) → g j < 256
      → sum 17 (λ i. times (get_or (rest m) i 0) (g i)) ≡ plus (g j) (sum m (λ k. times (factor k) (sum 17 (λ i. times (get_or (Q k) i 0) (g i)))))
  unfolding rest
  rest_weighted zero l g h =
      weighted_single j g (omega arith) h ∙ sym (rw (sum_none (λ (k : ℕ). times (factor k) (sum 17 (λ i. times (get_or (Q k) i 0) (g i))))) (plus_zero (g j)))
  rest_weighted (suc m) l g h =
      weighted_added 17 (factor m) (rest m) (Q m) g (same_size m l)
      ∙ rw (rest_weighted m (omega arith) g h, sum_more m (λ (k : ℕ). times (factor k) (sum 17 (λ i. times (get_or (Q k) i 0) (g i)))))
      (plus_assoc (g j) (sum m (λ k. times (factor k) (sum 17 (λ i. times (get_or (Q k) i 0) (g i))))) (times (factor m) (sum 17 (λ i. times (get_or (Q m) i 0) (g i)))))

  undone : (k : ℕ) → k < d → times (factor k) (polynomial 17 (Q k) (xs k)) ≡ power (xs k) j
  unfolding factor
  undone k l =
      let G : ℕ = polynomial 17 (Q k) (xs k) in
      times_assoc (power (xs k) j) (inverse G) G
      ∙ rw (times_comm (inverse G) G, times_inverse G (polynomial_fits 17 (Q k) (xs k)) (here k l)) (times_one (power (xs k) j) (power_fits (xs k) j))

  root : (i : ℕ) → i < d → polynomial 17 (rest d) (xs i) ≡ 0
  unfolding polynomial
  root i l =
      rest_weighted d (omega arith) (λ a. power (xs i) a) (power_fits (xs i) j)
      ∙ rw (
        sum_single d (λ (k : ℕ). times (factor k) (polynomial 17 (Q k) (xs i))) i l
            (λ k b o. rw (elsewhere k i b l (λ e. o (sym e))) (times_zero (factor k))),
        undone i l,
      )
      (plus_self (power (xs i) j))

  gone : paired 17 (rest d) s 0 ≡ 0
  unfolding paired
  gone =
      sum_zero 17 _ (λ i l. rw (all_zero (rest d) (length_rest d) (rest_bytes d (omega arith)) d room (rest_top d (omega arith)) xs fits apart root i) (zero_times (get_or s (0 + i) 0)))

  -- the j-th element is what the values give
  pub met : sum d (λ k. times (ys k) (power (xs k) j)) ≡ get_or s j 0
  unfolding paired
  met =
      let at : get_or s (0 + j) 0 ≡ get_or s j 0 = ap (λ (i : ℕ). get_or s i 0) (zero-add j) in
      let whole : plus (get_or s (0 + j) 0) (sum d (λ k. times (factor k) (paired 17 (Q k) s 0))) ≡ 0
      = sym (rest_weighted d (omega arith) (λ a. get_or s (0 + a) 0) (sb (0 + j))) ∙ gone in
      sum_same d _ (λ k. times (factor k) (paired 17 (Q k) s 0)) (λ k l.
      rw (← weighed k l, times_left_comm (factor k) (ys k) (polynomial 17 (Q k) (xs k)), undone k l) refl)
      ∙ sym (plus_same _ _ whole) ∙ at
