-- The packet of a slot, by what the plan tells of the slot.
use Rattle.std.proofs.Common.{◌≡◌, ℕ, Bool, true, false, cond, eqb, ◌≢◌, get_or, drop, sym, refl, ap, ◌∙◌, arith}
use Rattle.slot_plan.specs.Layout.{active}
use Rattle.slot_plan.specs.Views.{role_of, Tells}
use Rattle.slot_plan.specs.declared.fields.Fields.{Fields}
use Rattle.slot_plan.specs.declared.slots.Role.{Role}
use Rattle.slot_plan.specs.declared.slots.Role.TheVariants.{Active, Dummy}
use Rattle.slot_plan.specs.declared.slots.Slot.{Slot}
use Rattle.feed.specs.Packets.{Packet, Lists}
use Rattle.modulator.specs.Carried.{null_packet, serves}
use Rattle.modulator.specs.Progress.{NextPacket}

not_active : (role : Role) → role ≢ Active → role ≡ Dummy
not_active Active other = absurd (other refl)
not_active Dummy other = refl

module _ (p : Fields) (slot : ℕ) (told : Slot) (tells : Tells p slot told) where
  is_active : told.role ≡ Active → active p slot ≡ true
  is_active role = of (active p slot) (sym tells.role ∙ role)
    where
      of : (b : Bool) → role_of b ≡ Active → b ≡ true
      of true e = refl
      of false e = cc

  is_dummy : told.role ≡ Dummy → active p slot ≡ false
  is_dummy role = of (active p slot) (sym tells.role ∙ role)
    where
      of : (b : Bool) → role_of b ≡ Dummy → b ≡ false
      of false e = refl
      of true e = cc

  pub next_active :
      (before : Lists) (packet : Packet) (after : Lists) → told.role ≡ Active → packet ≡ get_or (before told.stream) 0 null_packet →
      ((r : ℕ) → after r ≡ drop (cond (eqb told.stream r) 1 0) (before r)) → NextPacket p slot before packet after
  unfolding serves
  next_active before packet after role next rest =
      let on = is_active role in
      record {
        active_slot = λ _. next ∙ ap (λ (q : ℕ). get_or (before q) 0 null_packet) tells.stream;
        rest = λ r. rest r ∙ rw (on, tells.stream);
      }

  pub next_other : (before : Lists) (packet : Packet) → told.role ≢ Active → NextPacket p slot before packet before
  unfolding serves
  next_other before packet other =
      let off = is_dummy (not_active told.role other) in
      record {
        active_slot = λ on. let z : ◌≡◌ {A = ℕ} 0 1 = cc in absurd (omega (arith, z));
        rest = λ r. rw off;
      }
