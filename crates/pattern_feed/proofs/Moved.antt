-- A take moves one stream on by one packet.
use Rattle.std.proofs.Common.{◌≡◌, ℕ, ◌+◌, ◌-◌, ◌<◌, ◌≤◌, true, List, length, get_or, set, Some, None, Option, MatchOption, refl, inl, inr, arith, get_or-set_other, get_or-set_same}
use Rattle.std.proofs.Math.ListN.{get_or-map}
use Rattle.std.proofs.lemmas.Bool.{cases_eq}
use Rattle.std.proofs.lemmas.List.{length-map, map-set}
use Rattle.std.specs.declared.ops.Range.{Range}
use Rattle.feed.specs.Packets.{Packet}
use Rattle.feed.specs.Takes.{Took}
use Rattle.feed.proofs.Taken.{took_first}
use Rattle.pattern_feed.specs.Numbers.{next_of, counts_of}
use Rattle.pattern_feed.specs.Patterns.{pattern, patterns, remaining}
use Rattle.pattern_feed.proofs.Run.{patterns_next}

-- no numbers
abbrev pub none : Range ℕ
none = record { start = 0; end = 0 }

module _ (left : List (Range ℕ)) (stream : ℕ) where
  pub next_at : get_or (next_of left) stream 0 ≡ (get_or left stream none).start
  next_at = get_or-map (λ (n : Range ℕ). n.start) left stream none

  pub count_at : get_or (counts_of left) stream 0 ≡ (get_or left stream none).end
  count_at = get_or-map (λ (n : Range ℕ). n.end) left stream none

module _ (left : List (Range ℕ)) (stream : ℕ) (after : Range ℕ) (within : stream < length left)
    (end : after.end ≡ (get_or left stream none).end) where
  nexts : stream < length (next_of left)
  nexts = omega (arith, length-map left (λ n. n.start))

  ends : stream < length (counts_of left)
  ends = omega (arith, length-map left (λ n. n.end))

  pub moved :
      (buffer filled : Packet) → (get_or left stream none).start < (get_or left stream none).end →
      after.start ≡ (get_or left stream none).start + 1 → filled ≡ pattern stream (get_or left stream none).start →
      Took (remaining (next_of left) (counts_of left)) stream true
      (remaining (next_of (set left stream after)) (counts_of (set left stream after))) buffer filled
  moved buffer filled some start is =
      let first = nexts in
      let last = ends in
      took_first (remaining (next_of left) (counts_of left))
      (remaining (next_of (set left stream after)) (counts_of (set left stream after))) stream filled
      (patterns stream ((get_or left stream none).start + 1) (get_or left stream none).end) buffer
      (rw (next_at left stream, count_at left stream, is) (patterns_next stream (get_or left stream none).start (get_or left stream none).end some))
      (rw (map-set, map-set, get_or-set_same, get_or-set_same, start, end) refl)
      (λ r apart. rw (map-set, map-set, get_or-set_other, get_or-set_other) refl)

  -- no stream's next number passes its count
  pub still_within :
      after.start ≤ after.end → ((r : ℕ) → get_or (next_of left) r 0 ≤ get_or (counts_of left) r 0) → (r : ℕ) →
      get_or (next_of (set left stream after)) r 0 ≤ get_or (counts_of (set left stream after)) r 0
  still_within ordered all r =
      let first = nexts in
      let last = ends in
      elim (cases_eq r stream) [
        | inl same ↦
            rw (same, map-set, map-set, get_or-set_same, get_or-set_same) ordered
        | inr apart ↦
            rw (map-set, map-set, get_or-set_other, get_or-set_other) (all r)
      ]

  pub still_short :
      ((r : ℕ) → get_or (counts_of left) r 0 ≤ 65535) → (r : ℕ) → get_or (counts_of (set left stream after)) r 0 ≤ 65535
  still_short all r =
      let last = ends in
      elim (cases_eq r stream) [
        | inl same ↦
            rw (same, map-set, get_or-set_same) (omega (arith, end, count_at left stream, all stream))
        | inr apart ↦
            rw (map-set, get_or-set_other) (all r)
      ]

-- a range that gave its next number, or had none, is still in order
pub next_within :
    (before after : Range ℕ) (r : Option ℕ) → before.start ≤ before.end → after.end ≡ before.end →
    MatchOption r ((before.end - before.start ≡ 0) × (after.start ≡ before.start))
    (λ x. (0 < before.end - before.start) × (x ≡ before.start) × (after.start ≡ before.start + 1)) →
    after.start ≤ after.end
next_within before after None ordered end steps = omega (arith, steps.1)
next_within before after (Some x) ordered end steps = omega (arith, steps.0, steps.2)
