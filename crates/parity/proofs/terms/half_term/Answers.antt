use Rattle.std.proofs.Common.{◌+◌, ◌*◌, ◌<◌, arith}
use Rattle.field256.specs.Field.{plus, reduced, twice, bitwise_product, times, power}
use Rattle.field256.proofs.Listed.{lists}
use Rattle.parity.proofs.Sixteen.{geometric, entry, term_table, entry_bytes}
use Rattle.parity.proofs.terms.half_term.Goals as goal

pub returns : goal.returns
unfolding lists geometric entry power times bitwise_product twice reduced plus
returns c =
    let inside : (c.args.place * 2 + c.args.half) * 16 + c.args.t < 512 = omega arith in
    rw term_table (entry_bytes c.args.place c.args.half c.args.t c.requires.half c.requires.value)
