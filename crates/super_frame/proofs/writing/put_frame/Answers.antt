use Rattle.std.proofs.Common.{◌≡◌, ℕ, ◌+◌, ◌*◌, List, [], ◌∷◌, ◌++◌, length, sym, ap, ◌∙◌, subst, rules, arith, length-append}
use Rattle.std.proofs.lemmas.Iterator.{YieldsList-from_slice}
use Rattle.std.specs.Iterator.Adapters.{zip_first, zip_second}
use Rattle.std.specs.Slice.Iter.{iter_rest}
use Rattle.dispersal.specs.Stages.{At}
use Rattle.frame_layout.specs.Layout.{super_size}
use Rattle.super_frame.specs.Carried.{packet_at}
use Rattle.super_frame.specs.Parts.{Staged}
use Rattle.super_frame.specs.Progress.{CarriesOnly, Begun}
use Rattle.super_frame.proofs.Advancing.{begun_more}
use Rattle.super_frame.proofs.Numbered.{numbered_turn}
use Rattle.super_frame.proofs.writing.put_frame.Goals as goal

pub overflow_add-slot : goal.overflow_add-slot
overflow_add-slot c =
    let gives = c.into_iter-slot-iterator.ensures.into_iter_gives in
    let second : iter_rest (zip_second c.zip-slot-items.result) ≡ c.args.packets.now = search rules in
    let t = numbered_turn c.slots-slots.result c.args.packets.now (omega arith) c.into_iter-slot-iterator.result c.loop-slot.slot-iterator c.next.new.self c.next.result
    (ap zip_first gives ∙ c.zip-slot-items.ensures.first) (YieldsList-from_slice c.args.packets.now (ap (λ z. iter_rest (zip_second z)) gives ∙ second))
    c.loop-slot.yielded c.loop-slot.yielded_by c.next.ensures.steps (c.in-Some.slot, c.in-Some.packet) c.in-Some.is in
    record { fits = omega (arith, t.0, t.1) }

pub carried-word-requires : goal.carried-word-requires
carried-word-requires c =
    let gives = c.into_iter-slot-iterator.ensures.into_iter_gives in
    let second : iter_rest (zip_second c.zip-slot-items.result) ≡ c.args.packets.now = search rules in
    let t = numbered_turn c.slots-slots.result c.args.packets.now (omega arith) c.into_iter-slot-iterator.result c.loop-slot.slot-iterator c.next.new.self c.next.result
    (ap zip_first gives ∙ c.zip-slot-items.ensures.first) (YieldsList-from_slice c.args.packets.now (ap (λ z. iter_rest (zip_second z)) gives ∙ second))
    c.loop-slot.yielded c.loop-slot.yielded_by c.next.ensures.steps (c.in-Some.slot, c.in-Some.packet) c.in-Some.is in
    (omega arith, omega (arith, t.0, t.1))

pub put_word-requires : goal.put_word-requires
put_word-requires c =
    let gives = c.into_iter-slot-iterator.ensures.into_iter_gives in
    let second : iter_rest (zip_second c.zip-slot-items.result) ≡ c.args.packets.now = search rules in
    let t = numbered_turn c.slots-slots.result c.args.packets.now (omega arith) c.into_iter-slot-iterator.result c.loop-slot.slot-iterator c.next.new.self c.next.result
    (ap zip_first gives ∙ c.zip-slot-items.ensures.first) (YieldsList-from_slice c.args.packets.now (ap (λ z. iter_rest (zip_second z)) gives ∙ second))
    c.loop-slot.yielded c.loop-slot.yielded_by c.next.ensures.steps (c.in-Some.slot, c.in-Some.packet) c.in-Some.is in
    (c.loop-slot.auto.out ∙ (c.requires.1 ∙ ap super_size (sym c.slots-slots.ensures.value)), c.requires.2, omega (arith, t.0, t.1))

pub loop-slot-preserved : goal.loop-slot-preserved
loop-slot-preserved c =
    let gives = c.into_iter-slot-iterator.ensures.into_iter_gives in
    let second : iter_rest (zip_second c.zip-slot-items.result) ≡ c.args.packets.now = search rules in
    let t = numbered_turn c.slots-slots.result c.args.packets.now (omega arith) c.into_iter-slot-iterator.result c.loop-slot.slot-iterator c.next.new.self c.next.result
    (ap zip_first gives ∙ c.zip-slot-items.ensures.first) (YieldsList-from_slice c.args.packets.now (ap (λ z. iter_rest (zip_second z)) gives ∙ second))
    c.loop-slot.yielded c.loop-slot.yielded_by c.next.ensures.steps (c.in-Some.slot, c.in-Some.packet) c.in-Some.is in (
      (tt, tt),
      tt,
      λ all packets begun.
          let p = c.args.plan.now.fields in
          let f = c.args.frame in
          let s = length c.loop-slot.yielded in
          let slots : c.slots-slots.result ≡ p.slots = c.slots-slots.ensures.value in
          let read : c.in-Some.packet.now ≡ packet_at p.slots all (f + 1) (s + 1) = t.2 [] ∙ packets s (omega (arith, t.0)) in
          let more : s + 1 ≡ length (c.loop-slot.yielded ++ ((c.in-Some.slot, c.in-Some.packet) ∷ [])) = sym (length-append c.loop-slot.yielded ((c.in-Some.slot, c.in-Some.packet) ∷ [])) in
          let carried : CarriesOnly p (s + 1) (packet_at p.slots all (f + 1) (s + 1)) c.carried-word.result =
          subst (λ (q : List ℕ). CarriesOnly p (s + 1) q c.carried-word.result) read
          (subst (λ (n : ℕ). CarriesOnly p (n + 1) c.in-Some.packet.now c.carried-word.result) t.1
          (record { carried = c.carried-word.ensures.carried; only = c.carried-word.ensures.only })) in
          subst (λ (n : ℕ). Begun p all f n c.put_word.new.sequence.window c.put_word.new.bytes) more
          (begun_more p all f s c.loop-slot.sequence.window c.loop-slot.out c.carried-word.result c.put_word.new.sequence.window
          c.put_word.new.bytes (c.loop-slot.invariant.2 all packets begun) (omega (arith, t.0)) carried
          c.put_word.ensures.place
          (subst (λ (k : ℕ).
          (words : ℕ → ℕ → List ℕ) → words (f + 1) (k + 1) ≡ c.carried-word.result → At c.loop-slot.sequence.window ((f * p.slots + k) * 204) →
          Staged p.slots words (f * p.slots + k) c.loop-slot.out → Staged p.slots words (f * p.slots + k + 1) c.put_word.new.bytes) t.1
          (subst (λ (n : ℕ).
          (words : ℕ → ℕ → List ℕ) → words (f + 1) (c.in-Some.slot + 1) ≡ c.carried-word.result →
          At c.loop-slot.sequence.window ((f * n + c.in-Some.slot) * 204) → Staged n words (f * n + c.in-Some.slot) c.loop-slot.out →
          Staged n words (f * n + c.in-Some.slot + 1) c.put_word.new.bytes) slots c.put_word.ensures.staged))),
    )
