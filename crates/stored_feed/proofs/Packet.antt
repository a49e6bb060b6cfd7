-- The packet of a record is a packet.
use Rattle.std.proofs.Common.{◌≡◌, ℕ, ◌+◌, ◌*◌, ◌<◌, List, length, get_or, drop, ap, ◌∙◌, inl, inr, arith, length-drop, length-take}
use Rattle.std.proofs.lemmas.List.{get_or-take, get_or-drop, get_or_past}
use Rattle.std.proofs.lemmas.Bool.{cases_lt}
use Rattle.feed.specs.Packets.{IsPacket}
use Rattle.stored_feed.specs.Files.{records, packet_at, RecordRule}

module _ (file : List ℕ) (i : ℕ) (here : i < records file) where
  packet_length : length (packet_at file i) ≡ 188
  unfolding packet_at
  packet_length = simp (length-take, length-drop) (omega arith)

  packet_byte : (k : ℕ) → k < 188 → get_or (packet_at file i) k 0 ≡ get_or file (189 * i + 1 + k) 0
  unfolding packet_at
  packet_byte k within = get_or-take 188 (drop (189 * i + 1) file) k 0 within ∙ get_or-drop (189 * i + 1) file k 0

  pub packet_is : ((k : ℕ) → get_or file k 0 < 256) → RecordRule file i → IsPacket (packet_at file i)
  packet_is bytes rule =
      record {
        size = packet_length;
        sync = packet_byte 0 (omega arith) ∙ ap (λ (k : ℕ). get_or file k 0) (omega arith) ∙ rule.1;
        bytes = λ k.
            elim (cases_lt k 188) [
              | inl within ↦
                  omega (arith, packet_byte k within, bytes (189 * i + 1 + k))
              | inr past ↦
                  omega (arith, get_or_past (packet_at file i) k 0 (omega (arith, packet_length)))
            ];
      }
