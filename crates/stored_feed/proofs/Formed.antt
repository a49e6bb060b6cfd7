-- What the feed means is well formed.
use Rattle.std.proofs.Common.{◌≡◌, ℕ, ◌<◌, ◌≤◌, length, get_or, sym, ◌∙◌, inl, inr, arith}
use Rattle.std.proofs.lemmas.List.{get_or_past, length-map, nil_from_length}
use Rattle.std.proofs.lemmas.Bool.{cases_lt}
use Rattle.feed.specs.Packets.{IsPacket, WellFormed}
use Rattle.stored_feed.specs.Cursors.{next_of, left_of}
use Rattle.stored_feed.specs.Pending.{pending}
use Rattle.stored_feed.specs.declared.state.StoredFeed.{StoredFeed}
use Rattle.stored_feed.proofs.Bounds.{length_from, each_from}
use Rattle.stored_feed.proofs.Packet.{packet_is}

module _ (f : StoredFeed) where
  pub none_above : (r : ℕ) → 8 ≤ r → length (pending f r) ≡ 0
  none_above r above =
      sym (f.counted r) ∙ get_or_past (left_of f.cursors) r 0 (omega (arith, length-map f.cursors (λ c. c.left), f.streams))

  -- a packet waits: the stream's number is one of the eight
  pub some_waits : (r : ℕ) → 0 < length (pending f r) → r < 8
  some_waits r some =
      elim (cases_lt r 8) [ inl below ↦ below | inr above ↦ absurd (omega (arith, none_above r above)) ]

  pub pending_formed : WellFormed (pending f)
  pending_formed =
      record {
        streams = λ r above. nil_from_length (pending f r) (none_above r above);
        short = λ r. omega (arith, length_from f.file.now r (get_or (next_of f.cursors) r 0));
        packets = λ r.
            each_from (λ p. IsPacket p) f.file.now r (get_or (next_of f.cursors) r 0)
            (λ i here. packet_is f.file.now i here f.bytes (f.sound i here));
      }
