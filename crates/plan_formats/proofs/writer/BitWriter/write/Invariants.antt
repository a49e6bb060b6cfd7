use Rattle.std.proofs.Common.{◌-◌, ◌/◌, ◌^◌, [], ◌∷◌}
use Rattle.plan_formats.specs.Cursors.{Wrote}
use Rattle.plan_formats.proofs.writer.BitWriter.write.Given as goal

-- the number's first bits are written
abbrev pub invariant-loop-at : goal.invariant-loop-at
invariant-loop-at l = Wrote l.initial.self ((l.width - l.at, l.value / 2 ^ l.at) ∷ []) l.self
