use Rattle.std.proofs.Common.{◌*◌, ◌∙◌, arith}
use Rattle.super_frame.proofs.Rows.{scattered_more, left_head, left_part}
use Rattle.super_frame.proofs.parts.scatter.Goals as goal

pub loop-frame-preserved : goal.loop-frame-preserved
loop-frame-preserved c =
    let slots = c.args.slots in
    let slot = c.args.slot in
    let n = c.loop-frame.frame in
    let at = 203 * c.from.result in
    let to = c.part_start.result in
    let block = c.args.block.now in
    let before = c.loop-frame.bytes in
    let after = c.copy_part.new.into in
    let copied = c.copy_part.ensures in (
      scattered_more slots slot n at to block before after c.requires.1 (omega arith) c.part_start.ensures copied c.loop-frame.invariant.0,
      λ frame i hf hi. left_head 0 slots slot n at to block before after c.requires.1 c.part_start.ensures copied frame i hi ∙ c.loop-frame.invariant.1 frame i hf hi,
      λ other ho ne frame i hf hi.
          left_part 0 slots slot n at to block before after c.requires.1 c.part_start.ensures copied frame other i ho hi (λ _. ne)
          ∙ c.loop-frame.invariant.2 other ho ne frame i hf hi,
    )
