use Rattle.std.proofs.Common.{map, take}
use Rattle.plan_formats.specs.Body.{numbers}
use Rattle.plan_formats.specs.Cursors.{Wrote}
use Rattle.plan_formats.proofs.writer.BitWriter.write_numbers.Given as goal

abbrev pub invariant-loop-value : goal.invariant-loop-value
invariant-loop-value g l = Wrote l.initial.self (numbers l.width (take l.value-index (map g.T.Number.value l.values))) l.self
