use Rattle.std.proofs.Common.{◌≡◌, ◌∷◌, rules}
use Rattle.codeword_lines.proofs.Lines.{no_word}
use Rattle.codeword_lines.proofs.request.parse.Goals as goal

pub returns-in_ok-bound-in-67 : goal.returns-in_ok-bound-in-67
returns-in_ok-bound-in-67 c =
    let line = c.args.line.now in
    let rest = c.in_ok-letter.rest.now in
    let text = c.in_ok-kind.rest.now in
    let bound = c.in_ok-bound-in-67.ensures in
    let begun : line ≡ 67 ∷ rest = search rules in
    let n = no_word line rest text c.in_ok-kind.kind bound.0 c.in_ok-bound-in-67.text.now begun c.in_ok-kind.ensures bound.1 bound.2 in
    search rules
