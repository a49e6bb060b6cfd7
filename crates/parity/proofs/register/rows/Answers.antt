use Rattle.std.proofs.Common.{◌≡◌, add-one, div-one, arith}
use Rattle.parity.specs.Remainder.{bytes_of}
use Rattle.parity.proofs.Feeding.{empty, one_more_row}
use Rattle.parity.proofs.Sixteen.{low_bytes, low_read}
use Rattle.parity.proofs.register.rows.Goals as goal

pub loop-place-init : goal.loop-place-init
unfolding bytes_of
loop-place-init c = empty

pub loop-place-preserved : goal.loop-place-preserved
unfolding low_bytes
loop-place-preserved c =
    let k = c.loop-place.place in
    let n = c.args.block in
    let low : c.to_le_bytes.result ≡ low_bytes 0 8 n = simp div-one c.to_le_bytes.ensures in
    rw (add-one k)
    (one_more_row k n c.loop-place.all c.row-all.result c.loop-place.invariant (rw (low_read 8 n k c.to_le_bytes.result low (omega arith)) at c.row-all.ensures))
