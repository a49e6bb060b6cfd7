use Rattle.std.proofs.Common.{◌≡◌, ℕ, ◌+◌, ◌-◌, ◌≤◌, [], ◌∷◌, ◌++◌, length, sym, ap, ◌∙◌, subst, rules, length-append, arith}
use borrow.Rule.Slice.PartMut.{put_mid}
use Rattle.std.proofs.lemmas.List.Edits.{length-between}
use Rattle.std.specs.Iterator.Adapters.{zip_first}
use Rattle.frame_layout.proofs.Chunks.{chunks, chunks_long, chunk_long}
use Rattle.super_frame.specs.Reads.{word_place, RowsPut}
use Rattle.super_frame.proofs.Numbered.{numbered_turn, chunks_zipped}
use Rattle.super_frame.proofs.Takings.{word_within, rows_more, others_left, row_put}
use Rattle.super_frame.proofs.taking.put_rows.Goals as goal

pub offset_bounds-words-start : goal.offset_bounds-words-start
offset_bounds-words-start g c =
    let rows = c.args.rows.now in
    let gives = c.into_iter-frame-iterator.ensures.into_iter_gives in
    let t = numbered_turn 8 (chunks 203 rows) (chunks_long 203 8 rows (omega arith) c.requires.0) c.into_iter-frame-iterator.result c.loop-frame.frame-iterator c.next.new.self c.next.result
    (ap zip_first gives ∙ c.zip-frame-items.ensures.first)
    (chunks_zipped 203 rows c.into_iter-frame-iterator.result c.zip-frame-items.result c.chunks_exact.result (omega arith) gives c.zip-frame-items.ensures.second
    c.chunks_exact.ensures.size c.chunks_exact.ensures.rest)
    c.loop-frame.yielded c.loop-frame.yielded_by c.next.ensures.steps (c.in-Some.frame, c.in-Some.row) c.in-Some.is in
    let room : c.word_start-start.result + 204 ≤ length c.loop-frame.words =
    omega (arith, c.word_start-start.ensures, word_within c.args.slots c.in-Some.frame c.args.slot (omega (arith, t.0, t.1)) c.requires.1) in
    search (rules, room)

pub slice_bounds-put_row-end : goal.slice_bounds-put_row-end
slice_bounds-put_row-end g c =
    let rows = c.args.rows.now in
    let gives = c.into_iter-frame-iterator.ensures.into_iter_gives in
    let t = numbered_turn 8 (chunks 203 rows) (chunks_long 203 8 rows (omega arith) c.requires.0) c.into_iter-frame-iterator.result c.loop-frame.frame-iterator c.next.new.self c.next.result
    (ap zip_first gives ∙ c.zip-frame-items.ensures.first)
    (chunks_zipped 203 rows c.into_iter-frame-iterator.result c.zip-frame-items.result c.chunks_exact.result (omega arith) gives c.zip-frame-items.ensures.second
    c.chunks_exact.ensures.size c.chunks_exact.ensures.rest)
    c.loop-frame.yielded c.loop-frame.yielded_by c.next.ensures.steps (c.in-Some.frame, c.in-Some.row) c.in-Some.is in
    omega (arith, c.word_start-start.ensures, word_within c.args.slots c.in-Some.frame c.args.slot (omega (arith, t.0, t.1)) c.requires.1)

pub put_row-requires : goal.put_row-requires
put_row-requires g c =
    let rows = c.args.rows.now in
    let gives = c.into_iter-frame-iterator.ensures.into_iter_gives in
    let t = numbered_turn 8 (chunks 203 rows) (chunks_long 203 8 rows (omega arith) c.requires.0) c.into_iter-frame-iterator.result c.loop-frame.frame-iterator c.next.new.self c.next.result
    (ap zip_first gives ∙ c.zip-frame-items.ensures.first)
    (chunks_zipped 203 rows c.into_iter-frame-iterator.result c.zip-frame-items.result c.chunks_exact.result (omega arith) gives c.zip-frame-items.ensures.second
    c.chunks_exact.ensures.size c.chunks_exact.ensures.rest)
    c.loop-frame.yielded c.loop-frame.yielded_by c.next.ensures.steps (c.in-Some.frame, c.in-Some.row) c.in-Some.is in
    let start = c.word_start-start.result in
    let room : start + 204 ≤ length c.loop-frame.words =
    omega (arith, c.word_start-start.ensures, word_within c.args.slots c.in-Some.frame c.args.slot (omega (arith, t.0, t.1)) c.requires.1) in
    (chunk_long 203 8 rows (omega arith) c.requires.0 (length c.loop-frame.yielded) c.in-Some.row.now t.0 (t.2 []), length-between c.loop-frame.words start (start + 204) room ∙ omega arith)

pub loop-frame-preserved : goal.loop-frame-preserved
loop-frame-preserved g c =
    let rows = c.args.rows.now in
    let gives = c.into_iter-frame-iterator.ensures.into_iter_gives in
    let t = numbered_turn 8 (chunks 203 rows) (chunks_long 203 8 rows (omega arith) c.requires.0) c.into_iter-frame-iterator.result c.loop-frame.frame-iterator c.next.new.self c.next.result
    (ap zip_first gives ∙ c.zip-frame-items.ensures.first)
    (chunks_zipped 203 rows c.into_iter-frame-iterator.result c.zip-frame-items.result c.chunks_exact.result (omega arith) gives c.zip-frame-items.ensures.second
    c.chunks_exact.ensures.size c.chunks_exact.ensures.rest)
    c.loop-frame.yielded c.loop-frame.yielded_by c.next.ensures.steps (c.in-Some.frame, c.in-Some.row) c.in-Some.is in
    let rest = g.T.Element.idle in
    let first = c.args.first in
    let slots = c.args.slots in
    let slot = c.args.slot in
    let n = length c.loop-frame.yielded in
    let start = c.word_start-start.result in
    let at : start ≡ word_place slots n slot = c.word_start-start.ensures ∙ ap (λ (f : ℕ). word_place slots f slot) t.1 in
    let before = c.loop-frame.words in
    let k = start + 204 - start in
    let room : start + 204 ≤ length before = omega (arith, at, word_within slots n slot t.0 c.requires.1) in
    let put = row_put rows c.requires.0 n c.in-Some.row.now t.0 (t.2 []) rest first before c.put_row.new.word start k c.put_row.ensures room (omega arith) in
    let after = put_mid start k before c.put_row.new.word in
    let more : n + 1 ≡ length (c.loop-frame.yielded ++ ((c.in-Some.frame, c.in-Some.row) ∷ [])) =
    sym (length-append c.loop-frame.yielded ((c.in-Some.frame, c.in-Some.row) ∷ [])) in (
      search rules,
      tt,
      subst (λ (m : ℕ). RowsPut rest first slots slot m rows after) more
          (rows_more rest first slots slot n start rows before after c.requires.1 at put c.loop-frame.invariant.2),
      λ other ho ne frame i hf hi.
          others_left rest first slots slot n start rows before after c.requires.1 at put other ho ne frame i hf hi
          ∙ c.loop-frame.invariant.3 other ho ne frame i hf hi,
    )
