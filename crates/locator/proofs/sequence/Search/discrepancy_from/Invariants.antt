use Rattle.std.proofs.Common.{◌≡◌, length}
use Rattle.code_theory.specs.Sequences.{paired}
use Rattle.locator.proofs.sequence.Search.discrepancy_from.Given as goal

abbrev pub invariant-loop-coefficient : goal.invariant-loop-coefficient
invariant-loop-coefficient l = l.total ≡ paired (length l.yielded) l.self.locator l.sequence l.from
