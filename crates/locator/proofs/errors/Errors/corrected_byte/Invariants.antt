use Rattle.std.proofs.Common.{◌≡◌, ◌<◌, length, get_or}
use Rattle.locator.specs.Errors.{corrected}
use Rattle.locator.proofs.errors.Errors.corrected_byte.Given as goal

abbrev pub invariant-loop-at : goal.invariant-loop-at
invariant-loop-at l =
    (l.byte ≡ get_or (corrected (length l.yielded) l.self.places.list l.self.values l.word) l.place 0) × (l.byte < 256)
