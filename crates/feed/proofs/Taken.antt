-- How an implementation shows what a take does, and what a caller learns of the bytes.
use Rattle.std.proofs.Common.{◌≡◌, ℕ, ◌+◌, ◌<◌, ◌≤◌, Bool, true, false, ltb, ◌≢◌, List, [], ◌∷◌, length, get_or, drop, sym, refl, ap, ◌∙◌, subst, inl, inr, arith, length-drop}
use borrow.Author.Tests.{lt-true, true-ltb, false-ltb}
use Rattle.std.proofs.lemmas.List.{get_or_default, get_or_past, get_or-drop, nil_from_length}
use Rattle.std.proofs.lemmas.Bool.{cases_eq}
use Rattle.feed.specs.Packets.{Packet, Lists, IsPacket, WellFormed}
use Rattle.feed.specs.Takes.{Took}

-- the stream's list has a first packet
pub took_first :
    (before after : Lists) (stream : ℕ) (first : Packet) (rest : List Packet) (buffer : Packet) →
    before stream ≡ first ∷ rest → after stream ≡ rest → ((r : ℕ) → r ≢ stream → after r ≡ before r) →
    Took before stream true after buffer first
took_first before after stream first rest buffer has left others =
    record {
      answer = lt-true 0 (length (before stream)) (omega (arith, ap (λ (ps : List Packet). length ps) has));
      written = sym (ap (λ (ps : List Packet). get_or ps 0 buffer) has);
      shorter = left ∙ sym (ap (λ (ps : List Packet). drop 1 ps) has);
      others = others;
    }

-- the stream's list is empty
pub took_none :
    (lists : Lists) (stream : ℕ) (buffer : Packet) → lists stream ≡ [] → Took lists stream false lists buffer buffer
took_none lists stream buffer none =
    record {
      answer = sym (ap (λ (ps : List Packet). ltb 0 (length ps)) none);
      written = sym (ap (λ (ps : List Packet). get_or ps 0 buffer) none);
      shorter = none ∙ sym (ap (λ (ps : List Packet). drop 1 ps) none);
      others = λ r apart. refl;
    }

-- what was taken is a packet
pub taken_packet :
    {before after : Lists} {stream : ℕ} {buffer filled : Packet} →
    WellFormed before → Took before stream true after buffer filled → IsPacket filled
taken_packet {before} {after} {stream} {buffer} {filled} formed took =
    let some : 0 < length (before stream) = true-ltb 0 (length (before stream)) took.answer in
    subst (λ (p : Packet). IsPacket p)
    (get_or_default (before stream) 0 [] buffer some ∙ sym took.written)
    (formed.packets stream 0 some)

-- where none was taken the buffer is as it was
pub untaken_buffer :
    {before after : Lists} {stream : ℕ} {buffer filled : Packet} →
    Took before stream false after buffer filled → filled ≡ buffer
untaken_buffer {before} {after} {stream} {buffer} {filled} took =
    took.written ∙ get_or_past (before stream) 0 buffer (false-ltb 0 (length (before stream)) took.answer)

-- a take leaves the lists well formed
pub formed_after :
    {before after : Lists} {stream : ℕ} {taken : Bool} {buffer filled : Packet} →
    WellFormed before → Took before stream taken after buffer filled → WellFormed after
formed_after {before} {after} {stream} formed took =
    record {
      streams = λ r above.
          nil_from_length (after r)
          (omega (arith, no_longer r, ap (λ (ps : List Packet). length ps) (formed.streams r above)));
      short = λ r. omega (arith, no_longer r, formed.short r);
      packets = λ r.
          subst (λ (ps : List Packet). (k : ℕ) → k < length ps → IsPacket (get_or ps k [])) (sym (rest r).1) (later r (rest r).0);
    }
  where
    -- each list is what it was, without its first packets
    rest : (r : ℕ) → (n : ℕ) × (after r ≡ drop n (before r))
    rest r =
        elim (cases_eq r stream) [
          | inl same ↦
              (1, ap (λ (s : ℕ). after s) same ∙ took.shorter ∙ ap (λ (s : ℕ). drop 1 (before s)) (sym same))
          | inr apart ↦
              (0, took.others r apart)
        ]

    no_longer : (r : ℕ) → length (after r) ≤ length (before r)
    no_longer r = omega (arith, ap (λ (ps : List Packet). length ps) (rest r).1, length-drop (rest r).0 (before r))

    later : (r n k : ℕ) → k < length (drop n (before r)) → IsPacket (get_or (drop n (before r)) k [])
    later r n k within =
        subst (λ (p : Packet). IsPacket p) (sym (get_or-drop n (before r) k []))
        (formed.packets r (n + k) (omega (arith, length-drop n (before r))))
