use Rattle.std.proofs.Common.{◌≡◌, ℕ, ◌+◌, ◌-◌, ◌*◌, ◌<◌, ◌≤◌, [], ◌∷◌, ◌++◌, length, get_or, take, drop, sym, ap, ◌∙◌, subst, rules, length-append, arith}
use Rattle.std.proofs.lemmas.List.Edits.{length-between, get_or-between}
use Rattle.std.specs.Iterator.Adapters.{enumerate_count}
use Rattle.dispersal.specs.Stages.{At}
use Rattle.frame_layout.specs.Layout.{frame_size}
use Rattle.frame_layout.proofs.Chunks.{chunks, chunks_long, chunk_long, chunk_item}
use Rattle.super_frame.specs.Reads.{TmccRead}
use Rattle.super_frame.proofs.Numbered.{counted_turn, counted_end, chunks_counted}
use Rattle.super_frame.proofs.Offs.{tmcc_more}
use Rattle.super_frame.proofs.reading.read_tmcc.Goals as goal

pub loop-number-preserved : goal.loop-number-preserved
loop-number-preserved c =
    let slots = c.args.frames.now.slots in
    let stream = c.args.frames.now.elements.now in
    let full = c.args.frames.now.size in
    let F = frame_size slots in
    let all = chunks_long F 8 stream (omega arith) full in
    let gives = c.into_iter-number-iterator.ensures.into_iter_gives in
    let t = counted_turn (chunks F stream) c.into_iter-number-iterator.result c.loop-number.number-iterator c.next.new.self c.next.result
    (chunks_counted F stream c.into_iter-number-iterator.result c.enumerate-number-items.result c.chunks_exact.result (omega arith) gives
    c.enumerate-number-items.ensures.source (c.chunks_exact.ensures.size ∙ c.frame_size-size.ensures.size) c.chunks_exact.ensures.rest)
    (ap enumerate_count gives ∙ c.enumerate-number-items.ensures.count)
    c.loop-number.yielded c.loop-number.yielded_by c.next.ensures.steps (c.in-Some.number, c.in-Some.frame) c.in-Some.is in
    let n = length c.loop-number.yielded in
    let below : n < 8 = omega (arith, t.0, all) in
    let frame = c.in-Some.frame.now in
    let long = chunk_long F 8 stream (omega arith) full n frame below (t.2 []) in
    let room : 2 + 8 ≤ length frame = omega (arith, long) in
    let piece = take (2 + 8 - 2) (drop 2 frame) in
    let eight : length piece ≡ 8 = length-between frame 2 10 room in
    let put = c.put_dispersed.ensures.put (12 * n) c.loop-number.invariant.3 in
    let next : 12 * n + 8 + 4 ≡ 12 * (n + 1) = omega arith in
    let more : n + 1 ≡ length (c.loop-number.yielded ++ ((c.in-Some.number, c.in-Some.frame) ∷ [])) =
    sym (length-append c.loop-number.yielded ((c.in-Some.number, c.in-Some.frame) ∷ [])) in (
      search rules,
      tt,
      omega (arith, put.size, c.loop-number.invariant.2),
      subst (λ (k : ℕ). At c.skip.new.self.window (12 * k)) more
          (subst (λ (m : ℕ). At c.skip.new.self.window m) next
          (c.skip.ensures (12 * n + 8)
          (subst (λ (m : ℕ). At c.put_dispersed.new.sequence.window (12 * n + m)) eight (c.put_dispersed.ensures.place (12 * n) c.loop-number.invariant.3)))),
      subst (λ (k : ℕ). TmccRead slots stream k c.put_dispersed.new.bytes) more
          (tmcc_more slots n (8 * c.in-Some.number) stream piece c.loop-number.tmcc c.put_dispersed.new.bytes (ap (λ (f : ℕ). 8 * f) t.1) eight
          (λ i h. get_or-between frame 2 10 i 0 (omega arith) ∙ chunk_item F 8 stream (omega arith) full n frame below (t.2 []) 0 (2 + i) (omega arith) ∙ ap (λ (j : ℕ). get_or stream j 0) (omega arith)) put c.loop-number.invariant.4),
    )

pub returns : goal.returns
returns c =
    let slots = c.args.frames.now.slots in
    let stream = c.args.frames.now.elements.now in
    let full = c.args.frames.now.size in
    let F = frame_size slots in
    let all = chunks_long F 8 stream (omega arith) full in
    let gives = c.into_iter-number-iterator.ensures.into_iter_gives in
    let t = counted_end (chunks F stream) c.into_iter-number-iterator.result c.loop-number.number-iterator c.next.new.self c.next.result
    (chunks_counted F stream c.into_iter-number-iterator.result c.enumerate-number-items.result c.chunks_exact.result (omega arith) gives
    c.enumerate-number-items.ensures.source (c.chunks_exact.ensures.size ∙ c.frame_size-size.ensures.size) c.chunks_exact.ensures.rest)
    (ap enumerate_count gives ∙ c.enumerate-number-items.ensures.count)
    c.loop-number.yielded c.loop-number.yielded_by c.next.ensures.steps c.in-None.is in
    subst (λ (n : ℕ). TmccRead slots stream n c.loop-number.tmcc) (t ∙ all) c.loop-number.invariant.4
