use Rattle.std.proofs.Common.{◌≤◌, length, refl, arith}
use Rattle.parity.proofs.Unique.{codeword_at_zero}
use Rattle.outer_code.proofs.Clean.{clean, not_clean}
use Rattle.outer_code.proofs.corrector.settle.Goals as goal

pub returns-then-permits : goal.returns-then-permits
returns-then-permits g c =
    let w = c.args.word.now in
    let short : length w ≤ 255 = omega (arith, g.met.K.WordKind.short) in
    clean g.K.WordKind.permitted c.args.bound w short c.requires.bound (λ k. (c.type_inv.word k).fits)
    (codeword_at_zero w c.remainder-rest.result c.remainder-rest.ensures.is c.if-rest-eq0.true) (c.permits.ensures.0 c.if-permits.true)

pub returns-else-permits : goal.returns-else-permits
returns-else-permits g c =
    let w = c.args.word.now in
    let short : length w ≤ 255 = omega (arith, g.met.K.WordKind.short) in (
      refl,
      not_clean g.K.WordKind.permitted c.args.bound w short c.requires.bound (λ k. (c.type_inv.word k).fits)
          (codeword_at_zero w c.remainder-rest.result c.remainder-rest.ensures.is c.if-rest-eq0.true) (λ p. cc (c.permits.ensures.1 p)),
      refl,
    )
