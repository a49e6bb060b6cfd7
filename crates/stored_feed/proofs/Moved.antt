-- A take moves one stream's cursor past the record that it found.
use Rattle.std.proofs.Common.{◌≡◌, ℕ, ◌+◌, ◌-◌, ◌<◌, true, List, ◌∷◌, length, get_or, set, ap, ◌∙◌, inl, inr, arith, get_or-set_other, get_or-set_same}
use Rattle.std.proofs.Math.ListN.{get_or-map}
use Rattle.std.proofs.lemmas.List.{length-map, map-set}
use Rattle.std.proofs.lemmas.Bool.{cases_eq}
use Rattle.feed.specs.Packets.{Packet}
use Rattle.feed.specs.Takes.{Took}
use Rattle.feed.proofs.Taken.{took_first}
use Rattle.stored_feed.specs.Cursors.{next_of, left_of}
use Rattle.stored_feed.specs.Files.{packet_at, packets_from, remaining}
use Rattle.stored_feed.specs.declared.state.Cursor.{Cursor}

-- before the first record, with none left
abbrev pub start : Cursor
start = record { next = 0; left = 0 }

module _ (file : List ℕ) (cursors : List Cursor) (stream found : ℕ) (within : stream < length cursors)
    (next : packets_from file stream (get_or cursors stream start).next ≡ packet_at file found ∷ packets_from file stream (found + 1)) where
  abbrev pub past : Cursor
  past = record { next = found + 1; left = (get_or cursors stream start).left - 1 }

  -- the stream's list by its cursor
  here : packets_from file stream (get_or (next_of cursors) stream 0) ≡ packet_at file found ∷ packets_from file stream (found + 1)
  here = ap (λ (n : ℕ). packets_from file stream n) (get_or-map (λ (c : Cursor). c.next) cursors stream start) ∙ next

  pub moved :
      (buffer filled : Packet) → filled ≡ packet_at file found →
      Took (remaining file (next_of cursors)) stream true (remaining file (next_of (set cursors stream past))) buffer filled
  moved buffer filled is =
      let long : stream < length (next_of cursors) = omega (arith, length-map cursors (λ c. c.next)) in
      took_first (remaining file (next_of cursors)) (remaining file (next_of (set cursors stream past))) stream filled
      (packets_from file stream (found + 1)) buffer
      (rw is here)
      (rw map-set (rw get_or-set_same))
      (λ r apart. rw map-set (rw get_or-set_other))

  -- one packet less is left, and the counts agree with the lists again
  pub still_counted :
      ((r : ℕ) → get_or (left_of cursors) r 0 ≡ length (remaining file (next_of cursors) r)) → (r : ℕ) →
      get_or (left_of (set cursors stream past)) r 0 ≡ length (remaining file (next_of (set cursors stream past)) r)
  still_counted counted r =
      let nexts : stream < length (next_of cursors) = omega (arith, length-map cursors (λ c. c.next)) in
      let lefts : stream < length (left_of cursors) = omega (arith, length-map cursors (λ c. c.left)) in
      elim (cases_eq r stream) [
        | inl same ↦
            rw (same, map-set, map-set, get_or-set_same, get_or-set_same)
            (omega (
              arith,
              counted stream,
              get_or-map (λ (c : Cursor). c.left) cursors stream start,
              ap (λ (ps : List Packet). length ps) here,
            ))
        | inr apart ↦
            rw (map-set, map-set, get_or-set_other, get_or-set_other) (counted r)
      ]
