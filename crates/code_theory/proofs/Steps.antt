-- The three ways to go on to the next element: the recurrence holds there, or it is changed, with or without a higher degree.
-- Assumes nothing.
use Rattle.std.proofs.Common.{◌≡◌, ℕ, suc, ◌+◌, ◌-◌, ◌<◌, ◌≤◌, ◌≢◌, ◌⊎◌, List, length, get_or, sym, ap, ◌∙◌, inl, inr, arith}
use Rattle.field256.specs.Field.{times, power}
use Rattle.field256.proofs.Laws.{plus_self, plus_zero, zero_plus, times_comm, times_zero, no_zero_divisors}
use Rattle.code_theory.specs.Codeword.{Bytes, weight}
use Rattle.code_theory.specs.Sequences.{polynomial, paired, Values, Recurrence}
use Rattle.code_theory.proofs.Totals.{total}
use Rattle.code_theory.proofs.Locating.{pairing, annihilates}
use Rattle.code_theory.proofs.Recurrences.{Mixed, mixed_bytes, paired_mixed, paired_fits}

module _ (size : ℕ) (s : List ℕ) (n : ℕ) (p q : List ℕ) (L b : ℕ) (h : Recurrence size s n p q L b) where
  last_or : (i : ℕ) → i + L < suc n → (i + L < n) ⊎ (i ≡ n - L)
  last_or i l = search arith

  -- the locator paired with the sequence is a sum over the word's places
  as_total : (w : List ℕ) → Bytes w → Values s w → (i : ℕ) → i + L < length s
      → paired size p s i ≡ total (λ x. times (polynomial size p x) (power x i)) w
  as_total w f v i l = pairing size p s w i f v (λ j k. h.top j (omega arith))

  over_or : (a c : ℕ) → (a ≤ c) ⊎ (c < a)
  over_or a c = search arith

  -- where the recurrence fails, each word with these values has more bytes other than zero
  pub massey : n < length s → paired size p s (n - L) ≢ 0
      → (w : List ℕ) → length w ≤ 255 → Bytes w → Values s w → suc n - L ≤ weight w
  massey more d w short f v =
      let within : L ≤ n = h.within in
      elim (over_or (suc n - L) (weight w)) [
        | inl l ↦ l
        | inr l ↦
            absurd
            (d (as_total w f v (n - L) (omega arith)
            ∙ annihilates w short f (polynomial size p) (n - L) (omega arith)
            (λ i k. sym (as_total w f v i (omega arith)) ∙ h.zeros i (omega arith)) (n - L)))
      ]

  -- the recurrence holds at the next element
  pub same_step : paired size p s (n - L) ≡ 0 → Recurrence size s (suc n) p q L b
  same_step d =
      record {
        within = omega (arith, h.within);
        room = h.room;
        bytes = h.bytes;
        helper_bytes = h.helper_bytes;
        top = h.top;
        lead = h.lead;
        helper_top = λ j k. h.helper_top j (omega arith);
        zeros = λ i k. elim (last_or i k) [ inl l ↦ h.zeros i l | inr e ↦ rw e d ];
        helper_zeros = h.helper_zeros;
        helper_fails = h.helper_fails;
        fails = h.fails;
        fits = h.fits;
        least = h.least;
      }

  -- it fails there, and the helper is short enough to be added without a higher degree
  module _ (r : List ℕ) (small : n < L + L) (m : Mixed r p q b (paired size p s (n - L)) (L + L - suc n)) where
    kept_tail : (j : ℕ) → size ≤ L + L - suc n + j → get_or q j 0 ≡ 0
    kept_tail j k = h.helper_top j (omega (arith, h.room))

    kept_top : (k : ℕ) → L ≤ k → n < k + L → get_or r k 0 ≡ times b (get_or p k 0)
    kept_top k l u =
        let within : L ≤ n = h.within in
        let e : k ≡ L + L - suc n + (k - (L + L - suc n)) = omega arith in
        ap (λ (x : ℕ). get_or r x 0) e ∙ m.high (k - (L + L - suc n))
        ∙ rw (h.helper_top (k - (L + L - suc n)) (omega arith), times_zero, plus_zero, ← e)

    kept_lead : get_or r L 0 ≢ 0
    kept_lead e =
        elim (no_zero_divisors b (get_or p L 0) h.fits (h.bytes L) (sym (kept_top L (omega arith) small) ∙ e))
        [ inl z ↦ h.fails z | inr z ↦ h.lead z ]

    kept_zeros : (i : ℕ) → i + L < suc n → paired size r s i ≡ 0
    kept_zeros i k =
        let within : L ≤ n = h.within in
        let d : ℕ = paired size p s (n - L) in
        paired_mixed size r p q s b d (L + L - suc n) i (omega (arith, h.room)) m kept_tail
        ∙ elim (last_or i k) [
          | inl l ↦ rw (h.zeros i l, h.helper_zeros (i + (L + L - suc n)) (omega arith), times_zero b, times_zero d) (plus_self 0)
          | inr e ↦ rw (h.helper_fails (i + (L + L - suc n)) (omega arith), e, times_comm b d) (plus_self (times d b))
        ]

    pub kept_step : Recurrence size s (suc n) r q L b
    kept_step =
        let within : L ≤ n = h.within in
        record {
          within = omega arith;
          room = h.room;
          bytes = mixed_bytes r p q b (paired size p s (n - L)) (L + L - suc n) m;
          helper_bytes = h.helper_bytes;
          top = λ j k. kept_top j (omega arith) (omega arith) ∙ rw (h.top j k) (times_zero b);
          lead = kept_lead;
          helper_top = λ j k. h.helper_top j (omega arith);
          zeros = kept_zeros;
          helper_zeros = h.helper_zeros;
          helper_fails = h.helper_fails;
          fails = h.fails;
          fits = h.fits;
          least = h.least;
        }

  -- it fails there, and the degree has to rise: the old locator is the helper from now on
  module _ (r : List ℕ) (large : L + L ≤ n) (more : n < length s) (room : suc n - L < size)
      (d : paired size p s (n - L) ≢ 0) (m : Mixed r q p (paired size p s (n - L)) b (suc n - L - L)) where
    raised_tail : (j : ℕ) → size ≤ suc n - L - L + j → get_or p j 0 ≡ 0
    raised_tail j k = h.top j (omega arith)

    raised_top : (j : ℕ) → L ≤ j → get_or r (suc n - L - L + j) 0 ≡ times b (get_or p j 0)
    raised_top j l =
        m.high j ∙ rw (h.helper_top (suc n - L - L + j) (omega arith), times_zero (paired size p s (n - L))) (zero_plus (times b (get_or p j 0)))

    raised_lead : get_or r (suc n - L) 0 ≢ 0
    raised_lead e =
        let same : suc n - L ≡ suc n - L - L + L = omega arith in
        elim (no_zero_divisors b (get_or p L 0) h.fits (h.bytes L)
        (sym (raised_top L (omega arith)) ∙ ap (λ (x : ℕ). get_or r x 0) (sym same) ∙ e))
        [ inl z ↦ h.fails z | inr z ↦ h.lead z ]

    before_or : (i : ℕ) → i + (suc n - L) < suc n → (suc i < L) ⊎ (suc i ≡ L)
    before_or i k = search arith

    raised_zeros : (i : ℕ) → i + (suc n - L) < suc n → paired size r s i ≡ 0
    raised_zeros i k =
        let f : ℕ = paired size p s (n - L) in
        paired_mixed size r q p s f b (suc n - L - L) i (omega arith) m raised_tail
        ∙ elim (before_or i k) [
          | inl l ↦ rw (h.helper_zeros i l, h.zeros (i + (suc n - L - L)) (omega arith), times_zero f, times_zero b) (plus_self 0)
          | inr e ↦
              let same : i + (suc n - L - L) ≡ n - L = omega arith in
              rw (h.helper_fails i e, same, times_comm f b) (plus_self (times b f))
        ]

    pub raised_step : Recurrence size s (suc n) r p (suc n - L) (paired size p s (n - L))
    raised_step =
        record {
          within = omega arith;
          room = room;
          bytes = mixed_bytes r q p (paired size p s (n - L)) b (suc n - L - L) m;
          helper_bytes = h.bytes;
          top = λ j k.
              let e : j ≡ suc n - L - L + (j - (suc n - L - L)) = omega arith in
              ap (λ (x : ℕ). get_or r x 0) e ∙ raised_top (j - (suc n - L - L)) (omega arith)
              ∙ rw (h.top (j - (suc n - L - L)) (omega arith)) (times_zero b);
          lead = raised_lead;
          helper_top = λ j k. h.top j (omega arith);
          zeros = raised_zeros;
          helper_zeros = λ i k. h.zeros i (omega arith);
          helper_fails = λ i k. let e : i ≡ n - L = omega arith in ap (paired size p s) e;
          fails = d;
          fits = paired_fits size p s (n - L);
          least = massey more d;
        }
