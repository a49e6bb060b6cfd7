use Rattle.std.proofs.Common.{◌≡◌, fold, ◌∙◌, arith, rules}
use Rattle.parity.proofs.Numbers.{pushed, pushed_all}
use Rattle.parity.proofs.words.number.Goals as goal

pub returns : goal.returns
returns c =
    let xs = c.args.bytes.now in
    let folded : c.fold.result ≡ fold pushed 0 xs = search rules in
    folded ∙ pushed_all 0 0 xs (omega arith) (omega arith) (λ k. (c.type_inv.bytes k).fits)
