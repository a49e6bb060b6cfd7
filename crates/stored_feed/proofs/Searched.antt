-- A search through the records of a file, cut into chunks, is one for the stream's next packet.
use Rattle.std.proofs.Common.{◌≡◌, ℕ, ◌+◌, ◌-◌, ◌<◌, ◌≤◌, ◌≢◌, List, [], length, get_or, Some, None, Option, MatchOption, sym, ap, ◌∙◌, inl, inr, arith}
use Rattle.std.proofs.lemmas.Bool.{cases_lt}
use Rattle.std.specs.Simd.{first_chunks}
use Rattle.stored_feed.specs.Files.{records, packets_from}
use Rattle.stored_feed.specs.Searches.{Next}
use Rattle.stored_feed.proofs.Chunks.{record_stream}
use Rattle.stored_feed.proofs.Scan.{from_end, from_here, from_over}

module _ (file : List ℕ) (chunks : List (List ℕ)) (stream from : ℕ) where
  abbrev pub Hit : ℕ → Type 0
  Hit i = get_or (get_or chunks i []) 0 0 ≡ stream

  abbrev pub Miss : ℕ → Type 0
  Miss i = get_or (get_or chunks i []) 0 0 ≢ stream

  pub searched :
      (r : Option ℕ) → chunks ≡ first_chunks 189 (records file) file → length chunks ≡ records file →
      MatchOption r ((k : ℕ) → from ≤ k → k < length chunks → Miss k)
      (λ i. (from ≤ i) × (i < length chunks) × Hit i × ((k : ℕ) → from ≤ k → k < i → Miss k)) →
      Next file stream from r
  searched None cut long none =
      elim (cases_lt from (records file)) [
        | inl within ↦
            let end : from + (records file - from) ≡ records file = omega arith in
            from_over file stream (records file - from) from (omega arith)
            (λ k at below. λ same. none k at (omega arith) (record_stream file chunks cut k (omega arith) ∙ same))
            ∙ from_end file stream (from + (records file - from)) (omega arith)
        | inr past ↦
            from_end file stream from (omega arith)
      ]
  searched (Some i) cut long found =
      let here : i < records file = omega (arith, found.1) in
      let end : from + (i - from) ≡ i = omega (arith, found.0) in (
        here,
        from_over file stream (i - from) from (omega arith)
            (λ k at below. λ same. found.3 k at (omega arith) (record_stream file chunks cut k (omega arith) ∙ same))
            ∙ ap (λ (k : ℕ). packets_from file stream k) end
            ∙ from_here file stream i here (sym (record_stream file chunks cut i here) ∙ found.2),
      )
