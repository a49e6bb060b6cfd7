use Rattle.std.proofs.Common.{Err, rules}
use Rattle.outer_code.specs.declared.fault.CodeFault.TheVariants.{Length, Bound}
use Rattle.outer_code.proofs.Results.{correction, settled}
use Rattle.outer_code.proofs.corrector.correct.Goals as goal

pub returns-then-word-LENGTH : goal.returns-then-word-LENGTH
returns-then-word-LENGTH g c =
    correction g.K.WordKind.LENGTH g.K.WordKind.permitted c.args.bound c.args.word.now (Err Length) c.args.word.now
    g.met.K.WordKind.short (search rules)

pub returns-then-bound-gt-LARGEST_BOUND : goal.returns-then-bound-gt-LARGEST_BOUND
returns-then-bound-gt-LARGEST_BOUND g c =
    correction g.K.WordKind.LENGTH g.K.WordKind.permitted c.args.bound c.args.word.now (Err Bound) c.args.word.now
    g.met.K.WordKind.short (search rules)

pub returns : goal.returns
returns g c =
    correction g.K.WordKind.LENGTH g.K.WordKind.permitted c.args.bound c.args.word.now c.settle.result c.settle.new.word
    g.met.K.WordKind.short (settled _ _ _ _ _ _ (search rules) (search rules) c.settle.ensures)
