use Rattle.std.proofs.Common.{ℕ, ◌+◌}
use Rattle.dispersal.specs.Stages.{At}
use Rattle.dispersal.proofs.sequence.Sequence.skip.Given as goal

abbrev pub invariant-loop : goal.invariant-loop
invariant-loop l = (n : ℕ) → At l.initial.self.window n → At l.self.window (n + l.counter)
