use Rattle.std.proofs.Common.{ℕ, List, subst}
use Rattle.plan_formats.specs.Bits.{front}
use Rattle.plan_formats.specs.Body.{numbers, Run}
use Rattle.plan_formats.proofs.Joins.{fit_numbers, width_of}
use Rattle.plan_formats.proofs.Reading.{took_start, took_values}
use Rattle.plan_formats.proofs.kept.pack.Goals as goal

pub returns-clause-fit : goal.returns-clause-fit
returns-clause-fit c =
    let packed = c.read_numbers.new.values in
    fit_numbers 64 packed (took_values 64 packed c.read_numbers.ensures).run.fits

pub returns-clause-run : goal.returns-clause-run
returns-clause-run c =
    let packed = c.read_numbers.new.values in
    subst (λ (l : List ℕ). Run 0 0 (numbers 64 packed) (front l 384) 384) c.new.ensures.bytes
    (took_start (numbers 64 packed) 384 c.new.ensures.place (width_of 64 packed 6 c.read_numbers.auto.values) (took_values 64 packed c.read_numbers.ensures))
