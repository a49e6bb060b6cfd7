use Rattle.std.proofs.Common.{◌∙◌}
use Rattle.codeword_lines.proofs.Bounds.{behind}
use Rattle.codeword_lines.proofs.request.bound_of.Goals as goal

pub returns-in_err-rest : goal.returns-in_err-rest
returns-in_err-rest c =
    let n = c.digits.ensures in
    rw c.from_residual.ensures (λ d rest dec e.
    let back = c.split_at.ensures.back ∙ behind c.args.text.now d rest _ dec e (n.before, n.end) in
    let none = rw back at c.in_err-rest.ensures.cases in
    cc)
