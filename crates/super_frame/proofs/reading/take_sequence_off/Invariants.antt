use Rattle.std.proofs.Common.{◌≡◌, ℕ, ◌*◌, ◌≤◌, get_or}
use Rattle.dispersal.specs.Stages.{At}
use Rattle.super_frame.specs.Reads.{OffWords}
use Rattle.super_frame.proofs.reading.take_sequence_off.Given as goal

abbrev pub invariant-loop-number : goal.invariant-loop-number
invariant-loop-number l =
    At l.sequence.window (204 * l.number) × OffWords l.number l.initial.words l.words
    × ((place : ℕ) → 204 * l.number ≤ place → get_or l.words place 0 ≡ get_or l.initial.words place 0)
