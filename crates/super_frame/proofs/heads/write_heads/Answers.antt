use Rattle.std.proofs.Common.{◌+◌, ◌-◌, ◌≤◌, length, ◌∙◌, arith}
use borrow.Rule.Slice.PartMut.{put_mid}
use Rattle.std.proofs.lemmas.List.Edits.{length-between}
use Rattle.super_frame.proofs.Apart.{frames_apart}
use Rattle.super_frame.proofs.Headings.{headed, heads_more, slots_left}
use Rattle.super_frame.proofs.heads.write_heads.Goals as goal

pub loop-frame-preserved : goal.loop-frame-preserved
loop-frame-preserved c =
    let inv = c.loop-frame.invariant in
    let slots = c.args.slots in
    let n = c.loop-frame.frame in
    let tmcc = c.args.tmcc.now in
    let before = c.loop-frame.bytes in
    let start = c.frame_start-start.result in
    let head = c.write_head.new.head in
    let room : start + 12 ≤ length before = omega (arith, c.frame_start-start.ensures, frames_apart slots n 8 c.loop-frame-test.true, c.requires) in
    let k = start + 12 - start in
    let after = put_mid start k before head in
    let here = headed slots n start k tmcc before head c.frame_start-start.ensures (omega arith) room (c.write_head.auto.head ∙ (length-between before start (start + 12) room ∙ omega arith)) (c.write_head.ensures.head inv.0) in (
      c.write_head.ensures.place inv.0,
      heads_more slots n tmcc before after here inv.1,
      λ slot hs frame i hf hi. slots_left slots n tmcc before after here slot hs frame i hf hi ∙ inv.2 slot hs frame i hf hi,
    )
