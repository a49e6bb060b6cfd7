use Rattle.std.proofs.Common.{◌≡◌, ℕ, ◌<◌, List, get_or, ap, ◌∙◌, subst, arith}
use Rattle.interleaver.specs.Blocks.{place, interleaved, deinterleaved}
use Rattle.interleaver.proofs.Transposed.{transposed_from}
use Rattle.interleaver.proofs.Undone.{home_below, place_of_home, interleaved_deinterleaved}
use Rattle.interleaver.proofs.calls.deinterleave.Goals as goal

pub returns : goal.returns
returns g c =
    let rest = g.T.Element.idle in
    let block = c.args.block.now in
    let blocks = c.in_ok-admit.ensures.0 in
    let written : c.loop-k.into ≡ deinterleaved rest block =
    transposed_from 203 8 rest block c.loop-k.into (omega (arith, blocks.1))
    (λ k h.
    let within : place 203 8 k < c.loop-k.k = omega (arith, home_below k h) in
    subst (λ (j : ℕ). get_or c.loop-k.into j rest ≡ get_or block (place 203 8 k) rest) (place_of_home k h)
    (c.loop-k.invariant (place 203 8 k) within)) in
    record {
      moved = (blocks, written);
      undone = ap (λ (xs : List g.row.T.Denot). interleaved rest xs) written ∙ interleaved_deinterleaved rest block blocks.0;
    }
