-- Cursors from which nothing was taken.
use Rattle.std.proofs.Common.{◌≡◌, ℕ, ◌<◌, List, length, get_or, sym, ap, ◌∙◌, inl, inr, arith}
use Rattle.std.proofs.Math.ListN.{get_or-map}
use Rattle.std.proofs.lemmas.Bool.{cases_lt}
use Rattle.std.proofs.lemmas.List.{get_or_past}
use Rattle.stored_feed.specs.Cursors.{next_of, left_of}
use Rattle.stored_feed.specs.Files.{packets_from}
use Rattle.stored_feed.specs.declared.state.Cursor.{Cursor}
use Rattle.stored_feed.proofs.Moved.{start}

-- each cursor stands before the first record, with its count of packets left
pub record Begun (counts : List ℕ) (cursors : List Cursor) : Type 0 where
  pub long : length cursors ≡ length counts
  pub each : (i : ℕ) → i < length counts → get_or cursors i start ≡ record { next = 0; left = get_or counts i 0 }

module _ (counts : List ℕ) (cursors : List Cursor) (b : Begun counts cursors) where
  -- past the last cursor, too
  all : (r : ℕ) → get_or cursors r start ≡ record { next = 0; left = get_or counts r 0 }
  all r =
      elim (cases_lt r (length counts)) [
        | inl within ↦
            b.each r within
        | inr past ↦
            get_or_past cursors r start (omega (arith, b.long))
            ∙ ap (λ (n : ℕ). record { next = 0; left = n }) (sym (get_or_past counts r 0 past))
      ]

  next_none : (r : ℕ) → get_or (next_of cursors) r 0 ≡ 0
  next_none r = get_or-map (λ (c : Cursor). c.next) cursors r start ∙ ap (λ (c : Cursor). c.next) (all r)

  begun_whole : (file : List ℕ) (r : ℕ) → packets_from file r (get_or (next_of cursors) r 0) ≡ packets_from file r 0
  begun_whole file r = ap (λ (n : ℕ). packets_from file r n) (next_none r)

  pub begun_counted :
      (file : List ℕ) → ((r : ℕ) → get_or counts r 0 ≡ length (packets_from file r 0)) →
      (r : ℕ) → get_or (left_of cursors) r 0 ≡ length (packets_from file r (get_or (next_of cursors) r 0))
  begun_counted file counted r =
      get_or-map (λ (c : Cursor). c.left) cursors r start
      ∙ ap (λ (c : Cursor). c.left) (all r)
      ∙ counted r
      ∙ ap (λ (ps : List (List ℕ)). length ps) (sym (begun_whole file r))
