use Rattle.std.proofs.Common.{◌≡◌, ◌+◌, ◌++◌, length, take, arith}
use Rattle.parity.specs.Remainder.{Checks}
use Rattle.outer_code.proofs.Coding.{coded}
use Rattle.outer_code.proofs.encoder.encode.Goals as goal

pub returns : goal.returns
returns g c =
    let w = c.args.word.now in
    let n = g.K.WordKind.DATA_LENGTH in
    let checks = c.check_bytes.result in
    let parts = c.split_at_mut-content in
    let front : parts.result.0.now ≡ take n w = rw c.DATA_LENGTH.ensures at parts.ensures.front in
    let ok : Checks (take n w) checks = rw front at c.check_bytes.ensures in
    let law : g.K.WordKind.LENGTH ≡ n + 16 = g.met.K.WordKind.checks in
    let size : length w ≡ g.K.WordKind.LENGTH = omega arith in
    let is : parts.result.0.now ++ c.copy_from_slice.new.self ≡ take n w ++ checks = cc in
    (size, coded n w checks _ (omega arith) (λ k. (c.type_inv.word k).fits) ok is)
