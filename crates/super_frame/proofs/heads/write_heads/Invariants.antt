use Rattle.std.proofs.Common.{◌≡◌, ℕ, ◌+◌, ◌*◌, ◌<◌, get_or}
use Rattle.dispersal.specs.Stages.{At}
use Rattle.frame_layout.specs.Layout.{frame_size, head_byte}
use Rattle.super_frame.specs.Parts.{SameSlot}
use Rattle.super_frame.proofs.heads.write_heads.Given as goal

abbrev pub invariant-loop-frame : goal.invariant-loop-frame
invariant-loop-frame l =
    At l.sequence.window (12 * l.frame)
    × ((frame i : ℕ) → frame < l.frame → i < 12 → get_or l.bytes (frame * frame_size l.slots + i) 0 ≡ head_byte l.tmcc (frame + 1) i)
    × ((slot : ℕ) → slot < l.slots → SameSlot l.slots l.initial.bytes l.bytes slot)
