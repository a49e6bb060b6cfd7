use Rattle.std.proofs.Common.{◌≡◌, List, ap, ◌∙◌, arith}
use Rattle.interleaver.specs.Blocks.{interleaved, deinterleaved}
use Rattle.interleaver.proofs.Transposed.{transposed_from}
use Rattle.interleaver.proofs.Undone.{deinterleaved_interleaved}
use Rattle.interleaver.proofs.calls.interleave.Goals as goal

pub returns : goal.returns
returns g c =
    let rest = g.T.Element.idle in
    let block = c.args.block.now in
    let blocks = c.in_ok-admit.ensures.0 in
    let written : c.loop-k.into ≡ interleaved rest block =
    transposed_from 8 203 rest block c.loop-k.into (omega (arith, blocks.1)) (λ k h. c.loop-k.invariant k (omega arith)) in
    record {
      moved = (blocks, written);
      undone =
          ap (λ (xs : List g.row.T.Denot). deinterleaved rest xs) written ∙ deinterleaved_interleaved rest block blocks.0;
    }
