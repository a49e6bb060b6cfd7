-- The packets read from a list one after the other, with the null packet beyond its end.
use Rattle.std.proofs.Common.{◌≡◌, ℕ, zero, suc, ◌+◌, ◌-◌, ◌<◌, ◌≤◌, List, [], ◌∷◌, ◌++◌, length, get_or, take, sym, refl, ap, ◌∙◌, inl, inr, append_assoc, append-nil, add-zero, add-suc, zero-add, add-one, arith, length-append, length-take, get_or-take, ext_get_or}
use Rattle.std.proofs.lemmas.List.{get_or_past, get_or_append_left, get_or-append_right}
use Rattle.std.proofs.lemmas.Bool.{cases_eq}
use Rattle.feed.specs.Packets.{Packet}
use Rattle.modulator.specs.Carried.{null_packet}

-- n packets from a place of the list on
unfoldable pub reads : List Packet → ℕ → ℕ → List Packet
reads ps from zero = []
reads ps from (suc n) = reads ps from n ++ (get_or ps (from + n) null_packet ∷ [])

pub reads_none : (ps : List Packet) (from : ℕ) → reads ps from 0 ≡ []
unfolding reads
reads_none ps from = refl

pub reads_more : (ps : List Packet) (from n : ℕ) → reads ps from (n + 1) ≡ reads ps from n ++ (get_or ps (from + n) null_packet ∷ [])
unfolding reads
reads_more ps from n = rw add-one

pub reads_length : (ps : List Packet) (from n : ℕ) → length (reads ps from n) ≡ n
unfolding reads
reads_length ps from zero = refl
reads_length ps from (suc n) =
    length-append (reads ps from n) (get_or ps (from + n) null_packet ∷ []) ∙ omega (arith, reads_length ps from n)

-- reading on
pub reads_on : (ps : List Packet) (m n : ℕ) → reads ps 0 m ++ reads ps m n ≡ reads ps 0 (m + n)
unfolding reads
reads_on ps m zero = simp (append-nil, add-zero)
reads_on ps m (suc n) =
    sym (append_assoc (reads ps 0 m) (reads ps m n) (get_or ps (m + n) null_packet ∷ []))
    ∙ ap (λ (qs : List Packet). qs ++ (get_or ps (m + n) null_packet ∷ [])) (reads_on ps m n)
    ∙ rw (add-suc, zero-add)

pub reads_at : (ps : List Packet) (n k : ℕ) (d : Packet) → k < n → get_or (reads ps 0 n) k d ≡ get_or ps k null_packet
unfolding reads
reads_at ps zero k d h = absurd (omega (arith, h))
reads_at ps (suc n) k d h =
    let here : 0 + n ≡ n = omega arith in
    elim (cases_eq k n) [
      | inl same ↦
          let first : k - n ≡ 0 = omega (arith, same) in
          get_or-append_right (reads ps 0 n) (get_or ps (0 + n) null_packet ∷ []) n k d (reads_length ps 0 n) (omega (arith, same))
          ∙ ap (λ (i : ℕ). get_or (get_or ps (0 + n) null_packet ∷ []) i d) first
          ∙ ap (λ (i : ℕ). get_or ps i null_packet) (here ∙ sym same)
      | inr apart ↦
          get_or_append_left (reads ps 0 n) (get_or ps (0 + n) null_packet ∷ []) d k
          (omega (arith, apart, reads_length ps 0 n))
          ∙ reads_at ps n k d (omega (arith, apart))
    ]

-- as many of them as the list has are its first
pub reads_first : (ps : List Packet) (n : ℕ) → take (length ps) (reads ps 0 n) ≡ take n ps
reads_first ps n =
    ext_get_or null_packet (take (length ps) (reads ps 0 n)) (take n ps)
    (length-take (length ps) (reads ps 0 n) ∙ omega (arith, reads_length ps 0 n, length-take n ps))
    (λ k h.
    let short : k < length ps = omega (arith, h, length-take (length ps) (reads ps 0 n)) in
    let within : k < n = omega (arith, h, length-take (length ps) (reads ps 0 n), reads_length ps 0 n) in
    get_or-take (length ps) (reads ps 0 n) k null_packet short
    ∙ reads_at ps n k null_packet within
    ∙ sym (get_or-take n ps k null_packet within))

-- and the others are null packets
pub reads_null : (ps : List Packet) (n k : ℕ) (d : Packet) → length ps ≤ k → k < n → get_or (reads ps 0 n) k d ≡ null_packet
reads_null ps n k d past h = reads_at ps n k d h ∙ get_or_past ps k null_packet past
