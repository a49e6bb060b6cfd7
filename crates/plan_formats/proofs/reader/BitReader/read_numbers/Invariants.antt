use Rattle.std.proofs.Common.{map, take}
use Rattle.plan_formats.specs.Body.{numbers}
use Rattle.plan_formats.specs.Cursors.{Took}
use Rattle.plan_formats.proofs.reader.BitReader.read_numbers.Given as goal

abbrev pub invariant-loop-value : goal.invariant-loop-value
invariant-loop-value g l = Took l.initial.self (numbers l.width (take l.value-index (map g.T.Number.value l.values))) l.self
