use Rattle.std.proofs.Common.{ℕ, replicate}
use Rattle.std.proofs.lemmas.List.{length-replicate}
use Rattle.interleaver.specs.Blocks.{interleaved}
use Rattle.super_frame.proofs.Blocks.{moved_ok, interleaved_here}
use Rattle.super_frame.proofs.interleaving.interleave_slot.Goals as goal

pub returns : goal.returns
returns c =
    let sent = c.interleave.new.into in
    let block = c.gather.new.block in
    record {
      here =
          interleaved_here c.args.slots c.args.slot c.args.bytes.now block sent c.scatter.new.bytes c.gather.ensures
          (moved_ok (λ rest xs. interleaved rest xs) 0 block (replicate 1624 0) sent c.interleave.result (c.gather.ensures.size, length-replicate {A = ℕ} 1624 0) c.interleave.ensures.moved)
          c.scatter.ensures.here;
      heads = c.scatter.ensures.heads;
      others = c.scatter.ensures.others;
    }
