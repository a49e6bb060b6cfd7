-- What a stream's active slots carry in a super-frame: the packets that waited, read one after the other.
use Rattle.std.proofs.Common.{◌≡◌, ℕ, zero, suc, ◌+◌, ◌-◌, ◌*◌, ◌<◌, ◌≤◌, Bool, true, false, cond, ◌&&◌, eqb, List, [], ◌∷◌, ◌++◌, map, length, get_or, take, sym, refl, ap, ◌∙◌, append-nil, add-zero, add-mul, one-mul, add-one, arith, eqb-true}
use Rattle.std.proofs.lemmas.List.{map-append}
use Rattle.slot_plan.specs.Layout.{active, stream}
use Rattle.slot_plan.specs.declared.fields.Fields.{Fields}
use Rattle.feed.specs.Packets.{Packet}
use Rattle.super_frame.specs.Carried.{Carries}
use Rattle.modulator.specs.Carried.{null_packet, serves, slots_of, serving, carried, earlier, in_super_frame}
use Rattle.modulator.specs.Fills.{Sent, carried_in, all_carried, placed}
use Rattle.modulator.proofs.Reading.{reads, reads_none, reads_more, reads_length, reads_on, reads_first, reads_null}
use Rattle.modulator.proofs.Serving.{serving_none, serving_more}

-- a slot that serves a stream is active and has it
pub serves_active : (p : Fields) (r s : ℕ) → serves p r s ≡ true → active p s ≡ true
unfolding serves
serves_active p r s h = split (active p s) (eqb (stream p s) r) h
  where
    split : (a b : Bool) → (a && b) ≡ true → a ≡ true
    split true b h = refl
    split false b h = h

pub serves_stream : (p : Fields) (r s : ℕ) → serves p r s ≡ true → stream p s ≡ r
unfolding serves
serves_stream p r s h = eqb-true (stream p s) r (split (active p s) (eqb (stream p s) r) h)
  where
    split : (a b : Bool) → (a && b) ≡ true → b ≡ true
    split true b h = h
    split false true h = refl
    split false false h = h

module _
    (sent : Sent)
    (held : (f s : ℕ) → 1 ≤ f → f ≤ 8 → 1 ≤ s → s ≤ sent.plan.slots → Carries sent.plan s (carried sent.plan sent.waited f s) (sent.words f s))
    (r : ℕ)
  where
    -- the data of the word in a slot that serves the stream
    word_data : (f m : ℕ) → f < 8 → m < sent.plan.slots → serves sent.plan r (suc m) ≡ true →
        take 188 (sent.words (suc f) (suc m))
        ≡ get_or (sent.waited r) (f * serving sent.plan r sent.plan.slots + serving sent.plan r m) null_packet
    unfolding carried
    word_data f m hf hm on =
        let own = ((held (suc f) (suc m) (omega arith) (omega arith) (omega arith) (omega arith)).active_slot (serves_active sent.plan r (suc m) on)).front in
        let frame : suc f - 1 ≡ f = omega arith in
        let slot : suc m - 1 ≡ m = omega arith in
        own
        ∙ ap (λ (q : ℕ). get_or (sent.waited q) (earlier sent.plan q (suc f) (suc m)) null_packet) (serves_stream sent.plan r (suc m) on)
        ∙ ap (λ (g : ℕ). get_or (sent.waited r) (g * serving sent.plan r sent.plan.slots + serving sent.plan r (suc m - 1)) null_packet) frame
        ∙ ap (λ (t : ℕ). get_or (sent.waited r) (f * serving sent.plan r sent.plan.slots + serving sent.plan r t) null_packet) slot

    frame_carries : (f m : ℕ) → f < 8 → m ≤ sent.plan.slots →
        map (λ s. take 188 (sent.words (suc f) s)) (slots_of sent.plan r m)
        ≡ reads (sent.waited r) (f * serving sent.plan r sent.plan.slots) (serving sent.plan r m)
    unfolding slots_of
    frame_carries f zero hf hm =
        sym (ap (reads (sent.waited r) (f * serving sent.plan r sent.plan.slots)) (serving_none sent.plan r)
        ∙ reads_none (sent.waited r) (f * serving sent.plan r sent.plan.slots))
    frame_carries f (suc m) hf hm =
        map-append data_of (slots_of sent.plan r m) (cond (serves sent.plan r (suc m)) (suc m ∷ []) [])
        ∙ ap (λ (ps : List Packet). ps ++ map data_of (cond (serves sent.plan r (suc m)) (suc m ∷ []) [])) (frame_carries f m hf (omega arith))
        ∙ last (serves sent.plan r (suc m)) refl
        ∙ sym (ap (reads (sent.waited r) start) more)
      where
        start : ℕ
        start = f * serving sent.plan r sent.plan.slots

        data_of : ℕ → Packet
        data_of s = take 188 (sent.words (suc f) s)

        more : serving sent.plan r (suc m) ≡ serving sent.plan r m + cond (serves sent.plan r (suc m)) 1 0
        more = rw add-one at (serving_more sent.plan r m)

        last : (b : Bool) → serves sent.plan r (suc m) ≡ b →
            reads (sent.waited r) start (serving sent.plan r m) ++ map data_of (cond b (suc m ∷ []) [])
            ≡ reads (sent.waited r) start (serving sent.plan r m + cond b 1 0)
        last true on =
            ap (λ (q : Packet). reads (sent.waited r) start (serving sent.plan r m) ++ (q ∷ [])) (word_data f m hf (omega arith) on)
            ∙ sym (reads_more (sent.waited r) start (serving sent.plan r m))
        last false off = append-nil (reads (sent.waited r) start (serving sent.plan r m)) ∙ rw add-zero

    frames_carry : (n : ℕ) → n ≤ 8 →
        carried_in sent r n ≡ reads (sent.waited r) 0 (n * serving sent.plan r sent.plan.slots)
    unfolding carried_in
    frames_carry zero h =
        let none : 0 * serving sent.plan r sent.plan.slots ≡ 0 = omega arith in
        sym (ap (reads (sent.waited r) 0) none ∙ reads_none (sent.waited r) 0)
    frames_carry (suc n) h =
        let size = serving sent.plan r sent.plan.slots in
        let next : n * size + size ≡ suc n * size = rw (← add-one, add-mul, one-mul) in
        ap (λ (ps : List Packet). ps ++ map (λ s. take 188 (sent.words (suc n) s)) (slots_of sent.plan r sent.plan.slots)) (frames_carry n (omega arith))
        ∙ ap (λ (ps : List Packet). reads (sent.waited r) 0 (n * size) ++ ps) (frame_carries n sent.plan.slots (omega arith) (omega arith))
        ∙ reads_on (sent.waited r) (n * size) size
        ∙ ap (reads (sent.waited r) 0) next

    -- the packets that a fill places are the first that waited
    pub placed_first : placed sent r ≡ take (in_super_frame sent.plan r) (sent.waited r)
    unfolding placed
    placed_first =
        ap (λ (ps : List Packet). take (length (sent.waited r)) ps) (frames_carry 8 (omega arith))
        ∙ reads_first (sent.waited r) (in_super_frame sent.plan r)

    pub idle_null : (k : ℕ) → length (sent.waited r) ≤ k → k < length (all_carried sent r) → get_or (all_carried sent r) k [] ≡ null_packet
    idle_null k past within =
        let all = frames_carry 8 (omega arith) in
        let size = ap (λ (ps : List Packet). length ps) all ∙ reads_length (sent.waited r) 0 (in_super_frame sent.plan r) in
        ap (λ (ps : List Packet). get_or ps k []) all
        ∙ reads_null (sent.waited r) (in_super_frame sent.plan r) k [] past (omega (arith, size))
