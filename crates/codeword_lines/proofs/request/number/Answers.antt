use Rattle.std.proofs.Common.{◌≡◌, refl, ◌∙◌, rules}
use Rattle.std.specs.List.{fold}
use Rattle.codeword_lines.proofs.Digits.{step, number_folded}
use Rattle.codeword_lines.proofs.request.number.Goals as goal

pub returns : goal.returns
returns c =
    let folded : c.fold.result ≡ fold step 0 c.args.digits.now = search rules in
    folded ∙ number_folded 0 0 c.args.digits.now refl
