use Rattle.interleaver.specs.Blocks.{deinterleaved}
use Rattle.super_frame.proofs.Blocks.{moved_ok}
use Rattle.super_frame.proofs.Deinterleaved.{taken_here}
use Rattle.super_frame.proofs.taking.take_slot.Goals as goal

pub returns : goal.returns
returns g c =
    let rest = g.T.Element.idle in
    let block = c.gather.new.block in
    let rows = c.deinterleave.new.into in
    record {
      here =
          taken_here rest c.args.first c.args.frames.now.slots c.args.slot c.args.frames.now.elements.now block rows c.put_rows.new.words c.gather.ensures
          (moved_ok (λ x xs. deinterleaved x xs) rest block c.args.rows.now rows c.deinterleave.result
          (c.gather.ensures.size, c.requires.3) c.deinterleave.ensures.moved)
          c.put_rows.ensures.here;
      others = c.put_rows.ensures.others;
    }
