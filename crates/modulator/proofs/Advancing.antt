-- How the taking of packets comes from slot to slot and from frame to frame. Assumes nothing.
use Rattle.std.proofs.Common.{◌≡◌, ℕ, ◌+◌, ◌*◌, ◌%◌, ◌<◌, true, cond, List, length, get_or, set, drop, sym, ap, ◌∙◌, subst, inl, inr, add-zero, add-mul, one-mul, add-sub_cancel, arith, get_or-set_other, get_or-set_same}
use Rattle.std.proofs.lemmas.List.{get_or-drop, drop-drop}
use Rattle.std.proofs.lemmas.Nat.{mod-mul-add}
use Rattle.std.proofs.lemmas.Bool.{cases_eq, cases_lt}
use Rattle.slot_plan.specs.Layout.{active, stream}
use Rattle.slot_plan.specs.declared.fields.Fields.{Fields}
use Rattle.feed.specs.Packets.{Packet, Lists}
use Rattle.super_frame.proofs.Advancing.{same_frame}
use Rattle.modulator.specs.Carried.{null_packet, serves, serving, carried}
use Rattle.modulator.specs.Progress.{NextPacket, TakenUpTo}
use Rattle.modulator.proofs.Serving.{serving_none, serving_more}

-- nothing is taken yet
pub taken_none : (p : Fields) (start : Lists) (packets : List Packet) → TakenUpTo p start 0 0 start packets
taken_none p start packets =
    let none : 0 * p.slots + 0 ≡ 0 = omega arith in
    record {
      held = λ frame slot within before. absurd (omega (arith, before, none));
      rest = λ r.
          let zero : 0 ≡ 0 * serving p r p.slots + serving p r 0 = omega (arith, serving_none p r) in
          ap (λ (n : ℕ). drop n (start r)) zero;
    }

module _ (p : Fields) (start : Lists) (f s : ℕ) (waiting : Lists) (packets : List Packet) (b : TakenUpTo p start f s waiting packets) where
  -- the next packet of the slot's stream is the one that the slot is to carry
  next_carried : get_or (waiting (stream p (s + 1))) 0 null_packet ≡ carried p start (f + 1) (s + 1)
  unfolding carried
  next_carried =
      let q = stream p (s + 1) in
      let k = f * serving p q p.slots + serving p q s in
      ap (λ (ps : List Packet). get_or ps 0 null_packet) (b.rest q)
      ∙ get_or-drop k (start q) 0 null_packet
      ∙ rw (add-zero, add-sub_cancel f 1, add-sub_cancel s 1)

  -- the packet of the next slot is taken
  pub taken_more :
      (packet : Packet) (after : Lists) → s < p.slots → f * p.slots + s < length packets →
      NextPacket p (s + 1) waiting packet after → TakenUpTo p start f (s + 1) after (set packets (f * p.slots + s) packet)
  taken_more packet after within fits next =
      record {
        held = λ g t ht before on.
            elim (cases_eq (g * p.slots + t) (f * p.slots + s)) [
              | inl same ↦
                  let alike = same_frame p.slots f s g t within ht same in
                  let here : active p (s + 1) ≡ true = subst (λ (x : ℕ). active p (x + 1) ≡ true) alike.1 on in
                  rw (same, get_or-set_same, alike.0, alike.1) (next.active_slot here ∙ next_carried)
              | inr apart ↦
                  let less : g * p.slots + t < f * p.slots + s = omega (arith, before, apart) in
                  rw get_or-set_other (b.held g t ht less on)
            ];
        rest = λ r.
            let k = f * serving p r p.slots + serving p r s in
            let more : k + cond (serves p r (s + 1)) 1 0 ≡ f * serving p r p.slots + serving p r (s + 1) = omega (arith, serving_more p r s) in
            next.rest r
            ∙ ap (λ (ps : List Packet). drop (cond (serves p r (s + 1)) 1 0) ps) (b.rest r)
            ∙ drop-drop (cond (serves p r (s + 1)) 1 0) k (start r)
            ∙ ap (λ (n : ℕ). drop n (start r)) more;
      }

-- a whole frame is done
pub taken_frame :
    (p : Fields) (start : Lists) (f : ℕ) (waiting : Lists) (packets : List Packet) →
    TakenUpTo p start f p.slots waiting packets → TakenUpTo p start (f + 1) 0 waiting packets
taken_frame p start f waiting packets b =
    let e : f * p.slots + p.slots ≡ (f + 1) * p.slots + 0 = rw (add-mul, one-mul, add-zero) in
    record {
      held = λ g t ht before. b.held g t ht (omega (arith, before, e));
      rest = λ r.
          let size = serving p r p.slots in
          let on : f * size + size ≡ (f + 1) * size + serving p r 0 = rw (add-mul, one-mul, serving_none p r, add-zero) in
          b.rest r ∙ ap (λ (n : ℕ). drop n (start r)) on;
    }

add_mul_one : (f n : ℕ) → (f + 1) * n ≡ f * n + n
add_mul_one f n = rw (add-mul, one-mul)

-- The packets of so many slots, counted over all frames, are taken.
pub record TakenAt (p : Fields) (start : Lists) (place : ℕ) (waiting : Lists) (packets : List Packet) : Type 0 where
  pub frame : ℕ
  pub slot : ℕ
  pub below : slot < p.slots
  pub is : place ≡ frame * p.slots + slot
  pub taken : TakenUpTo p start frame slot waiting packets

module _ (p : Fields) (start : Lists) (place : ℕ) (waiting : Lists) (packets : List Packet) (b : TakenAt p start place waiting packets) where
  pub slot_at : place % p.slots ≡ b.slot
  slot_at = ap (λ (k : ℕ). k % p.slots) b.is ∙ mod-mul-add b.frame p.slots b.slot b.below

  pub at_more :
      (packet : Packet) (after : Lists) → place < length packets → NextPacket p (place % p.slots + 1) waiting packet after →
      TakenAt p start (place + 1) after (set packets place packet)
  at_more packet after within next =
      let own : NextPacket p (b.slot + 1) waiting packet after =
      subst (λ (k : ℕ). NextPacket p (k + 1) waiting packet after) slot_at next in
      let more : TakenUpTo p start b.frame (b.slot + 1) after (set packets place packet) =
      subst (λ (k : ℕ). TakenUpTo p start b.frame (b.slot + 1) after (set packets k packet)) (sym b.is)
      (taken_more p start b.frame b.slot waiting packets b.taken packet after b.below (omega (arith, within, b.is)) own) in
      elim (cases_lt (b.slot + 1) p.slots) [
        | inl further ↦
            record { frame = b.frame; slot = b.slot + 1; below = further; is = omega (arith, b.is); taken = more }
        | inr last ↦
            let all : b.slot + 1 ≡ p.slots = omega (arith, b.below) in
            record {
              frame = b.frame + 1;
              slot = 0;
              below = omega (arith, b.below);
              is = omega (arith, b.is, all, add_mul_one b.frame p.slots);
              taken = taken_frame p start b.frame after (set packets place packet)
                  (subst (λ (k : ℕ). TakenUpTo p start b.frame k after (set packets place packet)) all more);
            }
      ]

-- all frames are done
pub at_all :
    (p : Fields) (start : Lists) (waiting : Lists) (packets : List Packet) → TakenAt p start (8 * p.slots) waiting packets →
    TakenUpTo p start 8 0 waiting packets
at_all p start waiting packets b =
    let alike = same_frame p.slots b.frame b.slot 8 0 b.below (omega (arith, b.below)) (omega (arith, b.is)) in
    subst (λ (k : ℕ). TakenUpTo p start 8 k waiting packets) (sym alike.1)
    (subst (λ (k : ℕ). TakenUpTo p start k b.slot waiting packets) (sym alike.0) b.taken)
