use Rattle.std.proofs.Common.{ℕ, List, rules}
use Rattle.plan_formats.specs.Bits.{front}
use Rattle.plan_formats.specs.Body.{numbers, Run}
use Rattle.plan_formats.proofs.Joins.{width_of}
use Rattle.plan_formats.proofs.Writing.{wrote_start, wrote_values, as_written}
use Rattle.plan_formats.proofs.kept.unpack.Goals as goal

pub returns-clause-run : goal.returns-clause-run
returns-clause-run c =
    let packed = c.args.packed.now in
    as_written (λ (l : List ℕ). Run 0 0 (numbers 64 packed) (front l 384) 384) _ c.write_numbers.new.self.bytes.now (search rules)
    (wrote_start (numbers 64 packed) 384 c.new.ensures.place (width_of 64 packed 6 c.told-packed) (wrote_values 64 packed c.write_numbers.ensures))
