use Rattle.std.proofs.Common.{[], ◌∷◌}
use Rattle.plan_formats.specs.Cursors.{Took}
use Rattle.plan_formats.proofs.reader.BitReader.read.Given as goal

abbrev pub invariant-loop : goal.invariant-loop
invariant-loop l = Took l.initial.self ((l.counter, l.value) ∷ []) l.self
