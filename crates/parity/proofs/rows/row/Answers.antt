use Rattle.std.proofs.Common.{◌+◌, ◌*◌, ◌<◌, arith}
use Rattle.std.proofs.lemmas.Nat.{div-mul-add, mod-mul-add}
use Rattle.field256.specs.Field.{plus, reduced, twice, bitwise_product, times}
use Rattle.field256.proofs.Listed.{lists}
use Rattle.parity.proofs.Row.{generator, first_row, follow, tabled, row_table, row_remainder}
use Rattle.parity.proofs.rows.row.Goals as goal

pub returns : goal.returns
unfolding lists generator first_row follow tabled times bitwise_product twice reduced plus
returns c =
    let h : c.args.t < 256 = omega arith in
    let inside : c.args.place * 256 + c.args.t < 2048 = omega arith in
    rw (row_table, div-mul-add c.args.place 256 c.args.t h, mod-mul-add c.args.place 256 c.args.t h)
    (row_remainder c.args.place c.args.t h)
