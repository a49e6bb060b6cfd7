-- The records of a file, cut into chunks of 189 bytes.
use Rattle.std.proofs.Common.{◌≡◌, ℕ, zero, suc, ◌+◌, ◌-◌, ◌*◌, ◌<◌, List, [], length, get_or, take, drop, ap, ◌∙◌, arith, length-drop, get_or-take, get_or-drop}
use Rattle.std.proofs.lemmas.List.{drop-drop, drop-take, take_all}
use Rattle.std.specs.Simd.{first_chunks}
use Rattle.stored_feed.specs.Files.{records, stream_at, packet_at}

chunk_at : (n k i : ℕ) (xs : List ℕ) → i < k → get_or (first_chunks n k xs) i [] ≡ take n (drop (n * i) xs)
chunk_at n zero i xs within = absurd (omega arith)
chunk_at n (suc k) zero xs within =
    let none : 0 ≡ n * 0 = omega arith in
    ap (λ (m : ℕ). take n (drop m xs)) none
chunk_at n (suc k) (suc i) xs within =
    let next : n + n * i ≡ n * suc i = omega arith in
    chunk_at n k i (drop n xs) (omega arith)
    ∙ ap (λ (ys : List ℕ). take n ys) (drop-drop (n * i) n xs)
    ∙ ap (λ (m : ℕ). take n (drop m xs)) next

module _ (file : List ℕ) (chunks : List (List ℕ)) (cut : chunks ≡ first_chunks 189 (records file) file) (i : ℕ) (here : i < records file) where
  record_at : get_or chunks i [] ≡ take 189 (drop (189 * i) file)
  record_at = ap (λ (rs : List (List ℕ)). get_or rs i []) cut ∙ chunk_at 189 (records file) i file here

  -- byte j of record i
  pub record_byte : (j : ℕ) → j < 189 → get_or (get_or chunks i []) j 0 ≡ get_or file (189 * i + j) 0
  record_byte j within =
      ap (λ (ys : List ℕ). get_or ys j 0) record_at
      ∙ get_or-take 189 (drop (189 * i) file) j 0 within
      ∙ get_or-drop (189 * i) file j 0

  pub record_stream : get_or (get_or chunks i []) 0 0 ≡ stream_at file i
  record_stream =
      let first : 189 * i + 0 ≡ 189 * i = omega arith in
      record_byte 0 (omega arith) ∙ ap (λ (k : ℕ). get_or file k 0) first

  -- what follows the stream number
  pub record_packet : take (length (get_or chunks i []) - 1) (drop 1 (get_or chunks i [])) ≡ packet_at file i
  unfolding packet_at
  record_packet =
      take_all (length (get_or chunks i []) - 1) (drop 1 (get_or chunks i [])) (omega (arith, length-drop 1 (get_or chunks i [])))
      ∙ ap (λ (ys : List ℕ). drop 1 ys) record_at
      ∙ drop-take 1 188 (drop (189 * i) file)
      ∙ ap (λ (ys : List ℕ). take 188 ys) (drop-drop 1 (189 * i) file)
