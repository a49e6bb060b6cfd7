use Rattle.std.proofs.Common.{◌≡◌, length, sym, ◌∙◌, arith}
use Rattle.std.proofs.lemmas.List.{ext_get_or}
use Rattle.dispersal.specs.Stages.{added}
use Rattle.dispersal.proofs.Added.{length_added, get_or_added}
use Rattle.dispersal.proofs.sequence.Sequence.add_each.Goals as goal

pub returns : goal.returns
returns c =
    let xs = c.args.bytes.now in
    let l = c.loop-byte in
    record {
      bytes = λ n here.
          ext_get_or 0 l.bytes (added n xs) (omega (arith, length_added n xs))
          (λ k h. (l.invariant.0 n here).1 k (omega arith) ∙ sym (get_or_added n xs k (omega arith)));
      place = λ n here.
          let end : l.byte-index ≡ length xs = omega arith in
          rw end at (l.invariant.0 n here).0;
    }
