-- The packets of a stream from a record on: how many there can be, and what holds of each.
use Rattle.std.proofs.Common.{ℕ, zero, suc, ◌+◌, ◌-◌, ◌<◌, ◌≤◌, Bool, true, false, cond, eqb, List, [], ◌∷◌, map, length, get_or, filter, arith}
use Rattle.std.proofs.lemmas.List.FromFn.{length-range_with_len}
use Rattle.std.proofs.lemmas.List.{length-map}
use Rattle.std.specs.List.{range_with_len}
use Rattle.feed.specs.Packets.{Packet}
use Rattle.stored_feed.specs.Files.{records, stream_at, packet_at, packets_from}

kept_short : (p : ℕ → Bool) (xs : List ℕ) → length (filter p xs) ≤ length xs
kept_short p [] = omega arith
kept_short p (x ∷ xs) =
    elim (p x) as (λ b. length (cond b (x ∷ filter p xs) (filter p xs)) ≤ length (x ∷ xs))
    [ true ↦ omega (arith, kept_short p xs) | false ↦ omega (arith, kept_short p xs) ]

pub length_from : (file : List ℕ) (r first : ℕ) → length (packets_from file r first) ≤ records file
unfolding packets_from
length_from file r first =
    let all = range_with_len first (records file - first) in
    let size = length-range_with_len first (records file - first) in
    omega (
      arith,
      length-map (filter (λ i. eqb (stream_at file i) r) all) (packet_at file),
      kept_short (λ i. eqb (stream_at file i) r) all,
    )

module _ (P : Packet → Type 0) where
  each_cons :
      (p : Packet) (ps : List Packet) → P p → ((k : ℕ) → k < length ps → P (get_or ps k [])) →
      (k : ℕ) → k < length (p ∷ ps) → P (get_or (p ∷ ps) k [])
  each_cons p ps here rest zero within = here
  each_cons p ps here rest (suc k) within = rest k (omega arith)

  each_kept :
      (f : ℕ → Packet) (test : ℕ → Bool) (n first : ℕ) → ((i : ℕ) → first ≤ i → i < first + n → P (f i)) →
      (k : ℕ) → k < length (map f (filter test (range_with_len first n))) → P (get_or (map f (filter test (range_with_len first n))) k [])
  each_kept f test zero first good k within = absurd (omega arith)
  each_kept f test (suc n) first good k within =
      let rest = filter test (range_with_len (first + 1) n) in
      let later : (k : ℕ) → k < length (map f rest) → P (get_or (map f rest) k []) =
      each_kept f test n (first + 1) (λ i from below. good i (omega arith) (omega arith)) in
      let by : (k : ℕ) → k < length (map f (cond (test first) (first ∷ rest) rest)) →
      P (get_or (map f (cond (test first) (first ∷ rest) rest)) k []) =
      elim (test first) as (λ b. (k : ℕ) → k < length (map f (cond b (first ∷ rest) rest)) → P (get_or (map f (cond b (first ∷ rest) rest)) k []))
      [ true ↦ each_cons (f first) (map f rest) (good first (omega arith) (omega arith)) later | false ↦ later ] in
      by k within

  pub each_from :
      (file : List ℕ) (r first : ℕ) → ((i : ℕ) → i < records file → P (packet_at file i)) →
      (k : ℕ) → k < length (packets_from file r first) → P (get_or (packets_from file r first) k [])
  unfolding packets_from
  each_from file r first good =
      each_kept (packet_at file) (λ i. eqb (stream_at file i) r) (records file - first) first
      (λ i from below. good i (omega arith))
