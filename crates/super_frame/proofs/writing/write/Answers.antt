use Rattle.std.proofs.Common.{◌≡◌, ℕ, ◌+◌, ◌*◌, ◌<◌, List, [], ◌∷◌, ◌++◌, length, sym, ap, ◌∙◌, subst, rules, length-append, arith}
use Rattle.std.specs.Iterator.Adapters.{zip_first}
use Rattle.frame_layout.proofs.Chunks.{chunks, chunks_long, chunk_long}
use Rattle.frame_layout.specs.Layout.{SuperFrame}
use Rattle.super_frame.specs.Parts.{Staged}
use Rattle.super_frame.specs.Progress.{FramePackets, Begun}
use Rattle.super_frame.proofs.Advancing.{all_words, all_held, all_staged, each_staged}
use Rattle.super_frame.proofs.Numbered.{numbered_turn, numbered_end, chunks_zipped}
use Rattle.super_frame.proofs.Packets.{part_packets}
use Rattle.super_frame.proofs.Written.{written}
use Rattle.super_frame.proofs.writing.write.Goals as goal

pub put_frame-requires : goal.put_frame-requires
put_frame-requires c =
    let slots = c.slots-slots.result in
    let packets = c.args.packets.now in
    let some : 0 < slots = omega arith in
    let size : length packets ≡ 188 * (8 * slots) = omega arith in
    let each = chunks 188 packets in
    let many : length each ≡ 8 * slots = chunks_long 188 (8 * slots) packets (omega arith) (omega arith) in
    let gives = c.into_iter-frame-iterator.ensures.into_iter_gives in
    let t = numbered_turn 8 (chunks slots each) (chunks_long slots 8 each some many) c.into_iter-frame-iterator.result c.loop-frame.frame-iterator c.next.new.self c.next.result
    (ap zip_first gives ∙ c.zip-frame-items.ensures.first)
    (chunks_zipped slots each c.into_iter-frame-iterator.result c.zip-frame-items.result c.chunks_exact.result some gives c.zip-frame-items.ensures.second
    (c.chunks_exact.ensures.size ∙ c.from-2.ensures) (c.chunks_exact.ensures.rest ∙ c.as_chunks.ensures.front))
    c.loop-frame.yielded c.loop-frame.yielded_by c.next.ensures.steps (c.in-Some.frame, c.in-Some.packets) c.in-Some.is in
    let long = chunk_long slots 8 each some many (length c.loop-frame.yielded) c.in-Some.packets.now t.0 (t.2 []) in
    (long ∙ c.slots-slots.ensures.value, omega arith, omega (arith, t.0, t.1))

pub loop-frame-preserved : goal.loop-frame-preserved
loop-frame-preserved c =
    let slots = c.slots-slots.result in
    let packets = c.args.packets.now in
    let some : 0 < slots = omega arith in
    let size : length packets ≡ 188 * (8 * slots) = omega arith in
    let each = chunks 188 packets in
    let many : length each ≡ 8 * slots = chunks_long 188 (8 * slots) packets (omega arith) (omega arith) in
    let gives = c.into_iter-frame-iterator.ensures.into_iter_gives in
    let t = numbered_turn 8 (chunks slots each) (chunks_long slots 8 each some many) c.into_iter-frame-iterator.result c.loop-frame.frame-iterator c.next.new.self c.next.result
    (ap zip_first gives ∙ c.zip-frame-items.ensures.first)
    (chunks_zipped slots each c.into_iter-frame-iterator.result c.zip-frame-items.result c.chunks_exact.result some gives c.zip-frame-items.ensures.second
    (c.chunks_exact.ensures.size ∙ c.from-2.ensures) (c.chunks_exact.ensures.rest ∙ c.as_chunks.ensures.front))
    c.loop-frame.yielded c.loop-frame.yielded_by c.next.ensures.steps (c.in-Some.frame, c.in-Some.packets) c.in-Some.is in
    let p = c.args.plan.now.fields in
    let f = length c.loop-frame.yielded in
    let own : FramePackets p.slots packets c.in-Some.frame c.in-Some.packets.now =
    subst (λ (n : ℕ). FramePackets n packets c.in-Some.frame c.in-Some.packets.now) c.slots-slots.ensures.value
    (subst (λ (k : ℕ). FramePackets slots packets k c.in-Some.packets.now) (sym t.1)
    (part_packets slots packets some size f c.in-Some.packets.now t.0 (t.2 []))) in
    let more : c.in-Some.frame + 1 ≡ length (c.loop-frame.yielded ++ ((c.in-Some.frame, c.in-Some.packets) ∷ [])) =
    ap (λ (n : ℕ). n + 1) t.1 ∙ sym (length-append c.loop-frame.yielded ((c.in-Some.frame, c.in-Some.packets) ∷ [])) in (
      search rules,
      tt,
      subst (λ (n : ℕ). Begun p packets n 0 c.put_frame.new.sequence.window c.put_frame.new.out) more
          (c.put_frame.ensures packets own
          (subst (λ (n : ℕ). Begun p packets n 0 c.loop-frame.sequence.window c.loop-frame.out) (sym t.1) c.loop-frame.invariant.2)),
    )

pub returns : goal.returns
returns c =
    let slots = c.slots-slots.result in
    let packets = c.args.packets.now in
    let some : 0 < slots = omega arith in
    let size : length packets ≡ 188 * (8 * slots) = omega arith in
    let each = chunks 188 packets in
    let many : length each ≡ 8 * slots = chunks_long 188 (8 * slots) packets (omega arith) (omega arith) in
    let gives = c.into_iter-frame-iterator.ensures.into_iter_gives in
    let t = numbered_end 8 (chunks slots each) (chunks_long slots 8 each some many) c.into_iter-frame-iterator.result c.loop-frame.frame-iterator c.next.new.self c.next.result
    (ap zip_first gives ∙ c.zip-frame-items.ensures.first)
    (chunks_zipped slots each c.into_iter-frame-iterator.result c.zip-frame-items.result c.chunks_exact.result some gives c.zip-frame-items.ensures.second
    (c.chunks_exact.ensures.size ∙ c.from-2.ensures) (c.chunks_exact.ensures.rest ∙ c.as_chunks.ensures.front))
    c.loop-frame.yielded c.loop-frame.yielded_by c.next.ensures.steps c.in-None.is in
    let p = c.args.plan.now.fields in
    let tmcc = c.args.tmcc.now in
    let value = c.slots-slots.ensures.value in
    let window = c.loop-frame.sequence.window in
    let begun : Begun p packets 8 0 window c.loop-frame.out =
    subst (λ (f : ℕ). Begun p packets f 0 window c.loop-frame.out) t c.loop-frame.invariant.2 in
    let made : (words : ℕ → ℕ → List ℕ) → Staged p.slots words (8 * p.slots) c.loop-frame.out → SuperFrame p.slots tmcc words c.finish.new.bytes =
    subst (λ (k : ℕ). (words : ℕ → ℕ → List ℕ) → Staged k words (8 * k) c.loop-frame.out → SuperFrame k tmcc words c.finish.new.bytes) value c.finish.ensures in
    let words = all_words p packets window c.loop-frame.out begun in
    record {
      written = (
        (omega arith, omega arith),
        written p tmcc packets c.finish.new.bytes words (all_held p packets window c.loop-frame.out begun)
            (made words (all_staged p packets window c.loop-frame.out begun)) (omega arith),
      );
      every = λ other carried. made other (each_staged p packets window c.loop-frame.out begun other carried);
    }
