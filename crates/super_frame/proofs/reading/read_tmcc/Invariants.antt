use Rattle.std.proofs.Common.{◌≡◌, ◌*◌, length}
use Rattle.dispersal.specs.Stages.{At}
use Rattle.super_frame.specs.Reads.{TmccRead}
use Rattle.super_frame.proofs.reading.read_tmcc.Given as goal

abbrev pub invariant-loop-number : goal.invariant-loop-number
invariant-loop-number l =
    (goal.iterator-loop-number).can_next l.number-iterator × (goal.iterator-loop-number).is_finite l.number-iterator
    × (length l.tmcc ≡ 64) × At l.sequence.window (12 * length l.yielded)
    × TmccRead l.frames.slots l.frames.elements.now (length l.yielded) l.tmcc
