-- A super-frame that carries the packets taken is the one that a fill is to write. Assumes nothing.
use Rattle.std.proofs.Common.{◌≡◌, ℕ, ◌+◌, ◌-◌, ◌*◌, ◌<◌, ◌≤◌, true, List, length, drop, sym, refl, ap, ◌∙◌, subst, add-zero, mul-le-mul_right, arith}
use Rattle.std.specs.List.{flat_map}
use Rattle.slot_plan.specs.Layout.{active}
use Rattle.slot_plan.specs.declared.fields.Fields.{Fields}
use Rattle.plan_formats.specs.Kept.{Keeps}
use Rattle.feed.specs.Packets.{Packet, Lists}
use Rattle.super_frame.specs.Carried.{packet_at, IsSlotWord, Written}
use Rattle.tmcc_word.specs.Words.{IsTmccWord}
use Rattle.modulator.specs.Carried.{serving, carried, in_super_frame}
use Rattle.modulator.specs.Fills.{Sent, Filled}
use Rattle.modulator.specs.Progress.{TakenUpTo}
use Rattle.modulator.specs.declared.state.Loaded.{Loaded}
use Rattle.modulator.proofs.Rows.{RowsOf, row_at}
use Rattle.modulator.proofs.Serving.{serving_none}

module _ (p : Fields) (start : Lists) (waiting : Lists) (packets : List Packet) (b : TakenUpTo p start 8 0 waiting packets)
    (long : length packets ≡ 8 * p.slots) (rows : RowsOf 188 packets) where
  -- the packets joined end to end
  abbrev joined : List ℕ
  joined = flat_map (λ x. x) packets

  all_held : (f s : ℕ) → 1 ≤ f → f ≤ 8 → 1 ≤ s → s ≤ p.slots → active p s ≡ true → packet_at p.slots joined f s ≡ carried p start f s
  all_held f s f1 f8 s1 sn on =
      let frame : f - 1 + 1 ≡ f = omega arith in
      let slot : s - 1 + 1 ≡ s = omega arith in
      let le : f - 1 ≤ 7 = omega arith in
      let before : (f - 1) * p.slots + (s - 1) < 8 * p.slots + 0 = omega (arith, mul-le-mul_right p.slots le) in
      row_at 188 ((f - 1) * p.slots + (s - 1)) packets (omega (arith, before, long)) rows
      ∙ b.held (f - 1) (s - 1) (omega arith) before (subst (λ (n : ℕ). active p n ≡ true) (sym slot) on)
      ∙ ap (λ (n : ℕ). carried p start n (s - 1 + 1)) frame
      ∙ ap (λ (n : ℕ). carried p start f n) slot

  all_taken : (r : ℕ) → waiting r ≡ drop (in_super_frame p r) (start r)
  all_taken r =
      let all : 8 * serving p r p.slots + serving p r 0 ≡ in_super_frame p r = rw (serving_none p r, add-zero) in
      b.rest r ∙ ap (λ (n : ℕ). drop n (start r)) all

  pub finished :
      (m : Loaded) (tmcc out : List ℕ) → Keeps m.kept.slots m.kept.packed p → IsTmccWord tmcc m.order.value p → Written p tmcc (flat_map (λ x. x) packets) out →
      (sent : Sent) × (sent.plan ≡ p) × Filled m start sent out waiting
  finished m tmcc out keeps tmcc_word written = (
    record { order = m.order.value; plan = p; tmcc = tmcc; words = written.words; waited = start },
    refl,
    record {
      state = record { order_is = refl; plan_is = keeps };
      lists = refl;
      tmcc_word = tmcc_word;
      slot_words = λ f s f1 f8 s1 sn.
          let own = written.carried f s f1 f8 s1 sn in
          record {
            active_slot = λ on.
                subst (λ (q : Packet). IsSlotWord q (written.words f s)) (all_held f s f1 f8 s1 sn on) (own.active_slot on);
            dummy_slot = own.dummy_slot;
          };
      written = written.bytes;
      rest = all_taken;
    },
  )
