-- Counting one record more.
use Rattle.std.proofs.Common.{◌≡◌, ℕ, ◌+◌, ◌<◌, ◌≤◌, List, length, get_or, set, sym, ap, ◌∙◌, inl, inr, arith, get_or-set_other, get_or-set_same}
use Rattle.std.proofs.lemmas.Bool.{cases_eq}
use Rattle.feed.specs.Packets.{Packet}
use Rattle.stored_feed.specs.Files.{records, stream_at, packets_from}
use Rattle.stored_feed.proofs.Bounds.{length_from}
use Rattle.stored_feed.proofs.Scan.{from_here, from_past}

-- Of each stream the packets counted before record i, and those from it on, are all.
abbrev pub Counted : List ℕ → List ℕ → ℕ → Type 0
Counted file counts i =
    (r : ℕ) → get_or counts r 0 + length (packets_from file r i) ≡ length (packets_from file r 0)

module _ (file counts : List ℕ) (i stream : ℕ) (here : i < records file) (is : stream_at file i ≡ stream) (so_far : Counted file counts i) where
  -- the packet of this record is not yet counted
  pub count_below : records file ≤ 65535 → get_or counts stream 0 < 65535
  count_below short =
      omega (
        arith,
        so_far stream,
        length_from file stream 0,
        ap (λ (ps : List Packet). length ps) (from_here file stream i here is),
      )

  pub counted_more :
      stream < length counts → Counted file (set counts stream (get_or counts stream 0 + 1)) (i + 1)
  counted_more within r =
      elim (cases_eq r stream) [
        | inl same ↦
            rw same (rw get_or-set_same
            (omega (
              arith,
              so_far stream,
              ap (λ (ps : List Packet). length ps) (from_here file stream i here is),
            )))
        | inr apart ↦
            rw get_or-set_other
            (omega (
              arith,
              so_far r,
              ap (λ (ps : List Packet). length ps) (from_past file r i here (λ same. apart (sym same ∙ is))),
            ))
      ]
