use Rattle.std.proofs.Common.{◌≡◌, ◌∙◌, div-one}
use Rattle.field256.specs.Field.{power}
use Rattle.parity.proofs.Sixteen.{low_bytes, low_values}
use Rattle.parity.proofs.syndromes_of.Goals as goal

pub returns : goal.returns
unfolding low_bytes
returns c =
    let v = c.values_at_roots.ensures in
    let n = c.args.remainder in
    let low : c.to_le_bytes.result ≡ low_bytes 0 16 n = simp div-one c.to_le_bytes.ensures in
    record { size = v.size; bytes = v.bytes; at = λ j h. v.at j h ∙ low_values n c.to_le_bytes.result (power 2 j) low }
