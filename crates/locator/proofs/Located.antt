-- What the search has found at the end of the sequence locates the errors.
-- Assumes nothing.
use Rattle.std.proofs.Common.{◌≡◌, ℕ, ◌-◌, List, length, sym, ◌∙◌, arith}
use Rattle.code_theory.specs.Sequences.{polynomial}
use Rattle.code_theory.proofs.Locating.{pairing, scaled_away, zero_at, polynomial_fits}
use Rattle.locator.specs.Searches.{Found, Locates}
use Rattle.locator.specs.declared.sequence.Search.{Search}

pub located : (s : List ℕ) (bound n : ℕ) (t : Search) → n ≡ length s → Found s bound n t → Locates s bound t.locator t.degree
located s bound n t e h =
    let g = h.recurrence in
    record {
      shape = record { size = h.size; room = g.room; bytes = g.bytes; top = g.top; lead = g.lead };
      few = h.few;
      annihilates = λ i l. g.zeros i (omega arith);
      least = g.least;
      zeros = λ w short f v light.
          zero_at (polynomial 9 t.locator) w f (polynomial_fits 9 t.locator)
          (scaled_away w short f (polynomial 9 t.locator) (length s - t.degree) (omega arith)
          (λ i l. sym (pairing 9 t.locator s w i f v (λ j k. g.top j (omega arith))) ∙ g.zeros i (omega arith)));
    }
