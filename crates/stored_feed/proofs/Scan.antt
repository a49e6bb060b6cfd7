-- The packets of a stream from a record on: what one record adds.
use Rattle.std.proofs.Common.{◌≡◌, ℕ, zero, suc, ◌+◌, ◌-◌, ◌<◌, ◌≤◌, Bool, true, false, cond, eqb, ◌≢◌, List, [], ◌∷◌, map, filter, refl, ap, ◌∙◌, arith, eq-eqb, ne_eqb}
use Rattle.std.specs.List.{range_with_len}
use Rattle.stored_feed.specs.Files.{records, stream_at, packet_at, packets_from}

module _ (file : List ℕ) (r : ℕ) where
  pub from_end : (first : ℕ) → records file ≤ first → packets_from file r first ≡ []
  unfolding packets_from
  from_end first past =
      let none : records file - first ≡ 0 = omega arith in
      ap (λ (n : ℕ). map (packet_at file) (filter (λ i. eqb (stream_at file i) r) (range_with_len first n))) none

  -- what the record adds, by the test of its stream number
  from_record :
      (first : ℕ) (test : Bool) → first < records file → eqb (stream_at file first) r ≡ test →
      packets_from file r first
      ≡ cond test (packet_at file first ∷ packets_from file r (first + 1)) (packets_from file r (first + 1))
  unfolding packets_from
  from_record first test some is =
      let more : records file - first ≡ suc (records file - (first + 1)) = omega arith in
      let rest = filter (λ i. eqb (stream_at file i) r) (range_with_len (first + 1) (records file - (first + 1))) in
      ap (λ (n : ℕ). map (packet_at file) (filter (λ i. eqb (stream_at file i) r) (range_with_len first n))) more
      ∙ ap (λ (b : Bool). map (packet_at file) (cond b (first ∷ rest) rest)) is
      ∙ elim test as (λ b. map (packet_at file) (cond b (first ∷ rest) rest)
      ≡ cond b (packet_at file first ∷ map (packet_at file) rest) (map (packet_at file) rest))
      [ true ↦ refl | false ↦ refl ]

  pub from_here :
      (first : ℕ) → first < records file → stream_at file first ≡ r →
      packets_from file r first ≡ packet_at file first ∷ packets_from file r (first + 1)
  from_here first some same = from_record first true some (eq-eqb (stream_at file first) r same)

  pub from_past :
      (first : ℕ) → first < records file → stream_at file first ≢ r →
      packets_from file r first ≡ packets_from file r (first + 1)
  from_past first some other = from_record first false some (ne_eqb (stream_at file first) r other)

  -- from a record on up to another with none of the stream's records between them
  pub from_over :
      (n first : ℕ) → first + n ≤ records file → ((k : ℕ) → first ≤ k → k < first + n → stream_at file k ≢ r) →
      packets_from file r first ≡ packets_from file r (first + n)
  from_over zero first some others =
      let here : first ≡ first + 0 = omega arith in
      ap (λ (k : ℕ). packets_from file r k) here
  from_over (suc n) first some others =
      let there : first + 1 + n ≡ first + suc n = omega arith in
      from_past first (omega arith) (others first (omega arith) (omega arith))
      ∙ from_over n (first + 1) (omega arith) (λ k from below. others k (omega arith) (omega arith))
      ∙ ap (λ (k : ℕ). packets_from file r k) there
