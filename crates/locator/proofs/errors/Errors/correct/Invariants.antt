use Rattle.std.proofs.Common.{◌≡◌, length}
use Rattle.locator.specs.Errors.{corrected}
use Rattle.locator.proofs.errors.Errors.correct.Given as goal

abbrev pub invariant-loop-at : goal.invariant-loop-at
invariant-loop-at l = l.word ≡ corrected (length l.yielded) l.self.places.list l.self.values l.initial.word
