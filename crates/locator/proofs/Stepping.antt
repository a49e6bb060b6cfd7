-- The step of the search, over the values that its code has.
-- Assumes nothing.
use Rattle.std.proofs.Common.{◌≡◌, ℕ, suc, ◌+◌, ◌-◌, ◌<◌, ◌≤◌, ◌≢◌, List, length, get_or, sym, ◌∙◌, subst, arith}
use Rattle.field256.specs.Field.{plus, times}
use Rattle.code_theory.specs.Sequences.{paired, Recurrence}
use Rattle.code_theory.proofs.Recurrences.{Mixed, mixed_within, paired_front}
use Rattle.code_theory.proofs.Steps.{massey, same_step, kept_step, raised_step}
use Rattle.locator.specs.Searches.{Found, TooMany}
use Rattle.locator.specs.declared.sequence.Search.{Search}

-- d is the discrepancy that the code computes, r what it makes of the two polynomials
module _ (s : List ℕ) (bound n : ℕ) (t : Search) (h : Found s bound n t) (d : ℕ)
    (computed : d ≡ paired (suc t.degree) t.locator s (n - t.degree)) where
  whole : paired 9 t.locator s (n - t.degree) ≡ d
  whole =
      let g = h.recurrence in
      paired_front 9 (suc t.degree) t.locator s (n - t.degree) (omega (arith, g.room)) (λ j k. g.top j (omega arith))
      ∙ sym computed

  pub found_same : d ≡ 0 → Found s bound (suc n) t
  found_same e =
      record {
        few = h.few;
        size = h.size;
        helper_size = h.helper_size;
        recurrence = same_step 9 s n t.locator t.helper t.degree t.discrepancy h.recurrence (whole ∙ e);
      }

  pub found_kept : (r : List ℕ) (shift : ℕ) → n < t.degree + t.degree
      → shift ≡ t.degree + t.degree - suc n → length r ≡ 9
      → ((j : ℕ) → j < 9 → j < shift → get_or r j 0 ≡ times t.discrepancy (get_or t.locator j 0))
      → ((j : ℕ) → shift + j < 9 → get_or r (shift + j) 0 ≡ plus (times t.discrepancy (get_or t.locator (shift + j) 0)) (times d (get_or t.helper j 0)))
      → Found s bound (suc n) (record { locator = r; helper = t.helper; degree = t.degree; discrepancy = t.discrepancy })
  found_kept r shift small e size low high =
      let g = h.recurrence in
      let mixed : Mixed r t.locator t.helper t.discrepancy d shift
      = mixed_within 9 r t.locator t.helper t.discrepancy d shift size h.size (λ j l. low j (omega (arith, g.room)) l) high
      (λ j k. g.helper_top j (omega (arith, g.room, g.within))) in
      record {
        few = h.few;
        size = size;
        helper_size = h.helper_size;
        recurrence =
            kept_step 9 s n t.locator t.helper t.degree t.discrepancy g r small
            (subst (λ (k : ℕ). Mixed r t.locator t.helper t.discrepancy k (t.degree + t.degree - suc n)) (sym whole)
            (subst (λ (k : ℕ). Mixed r t.locator t.helper t.discrepancy d k) e mixed));
      }

  pub too_many : (most : ℕ) → n < length s → d ≢ 0 → most < suc n - t.degree → TooMany s most
  too_many most more fails over w short f v =
      omega (
        arith,
        massey 9 s n t.locator t.helper t.degree t.discrepancy h.recurrence more (λ e. fails (sym whole ∙ e)) w short f v,
      )

  pub found_raised : (r : List ℕ) (shift raised : ℕ) → t.degree + t.degree ≤ n → n < length s → raised < 9 → raised ≤ bound
      → raised ≡ suc n - t.degree → d ≢ 0
      → shift ≡ suc n - t.degree - t.degree → length r ≡ 9
      → ((j : ℕ) → j < 9 → j < shift → get_or r j 0 ≡ times d (get_or t.helper j 0))
      → ((j : ℕ) → shift + j < 9 → get_or r (shift + j) 0 ≡ plus (times d (get_or t.helper (shift + j) 0)) (times t.discrepancy (get_or t.locator j 0)))
      → Found s bound (suc n) (record { locator = r; helper = t.locator; degree = raised; discrepancy = d })
  found_raised r shift raised large more room few is fails e size low high =
      let g = h.recurrence in
      let mixed : Mixed r t.helper t.locator d t.discrepancy shift
      = mixed_within 9 r t.helper t.locator d t.discrepancy shift size h.helper_size (λ j l. low j (omega arith) l) high (λ j k. g.top j (omega arith)) in
      let next : Recurrence 9 s (suc n) r t.locator (suc n - t.degree) (paired 9 t.locator s (n - t.degree))
      = raised_step 9 s n t.locator t.helper t.degree t.discrepancy g r large more (omega arith)
      (λ z. fails (sym whole ∙ z))
      (subst (λ (k : ℕ). Mixed r t.helper t.locator k t.discrepancy (suc n - t.degree - t.degree)) (sym whole)
      (subst (λ (k : ℕ). Mixed r t.helper t.locator d t.discrepancy k) e mixed)) in
      record {
        few = few;
        size = size;
        helper_size = h.size;
        recurrence =
            subst (λ (k : ℕ). Recurrence 9 s (suc n) r t.locator k d) (sym is)
            (subst (λ (k : ℕ). Recurrence 9 s (suc n) r t.locator (suc n - t.degree) k) whole next);
      }
