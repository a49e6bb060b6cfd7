use Rattle.std.proofs.Common.{◌<◌}
use Rattle.field256.specs.Field.{plus, reduced, twice, bitwise_product, times}
use Rattle.field256.proofs.Logarithms.{zeros, doubles, power_table, past_powers}
use Rattle.field256.proofs.tables.exp_entry.Goals as goal

pub returns : goal.returns
unfolding zeros doubles times bitwise_product twice reduced plus
returns c =
    let h : c.args.n < 1021 = c.requires in
    record { power = λ l. rw (power_table 510); zero = λ l. rw (past_powers 510 1) }
