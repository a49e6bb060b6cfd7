use Rattle.std.proofs.Common.{◌<◌, arith}
use Rattle.field256.specs.Field.{plus, reduced, twice, bitwise_product, times}
use Rattle.field256.proofs.Listed.{lists}
use Rattle.field256.proofs.Logarithms.{logarithm, position, powers_from, logarithm_table, power_logarithm, zero_logarithm}
use Rattle.field256.proofs.tables.log_entry.Goals as goal

pub returns : goal.returns
unfolding lists logarithm position powers_from times bitwise_product twice reduced plus
returns c =
    let h : c.args.a < 256 = omega arith in
    rw (logarithm_table 510) (record { power = λ p. power_logarithm 510 c.args.a p h; zero = λ z. zero_logarithm 510 c.args.a z })
