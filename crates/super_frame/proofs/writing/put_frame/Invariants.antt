use Rattle.std.proofs.Common.{ℕ, List, length}
use Rattle.super_frame.specs.Progress.{FramePackets, Begun}
use Rattle.super_frame.proofs.writing.put_frame.Given as goal

abbrev pub invariant-loop-slot : goal.invariant-loop-slot
invariant-loop-slot l =
    (goal.iterator-loop-slot).can_next l.slot-iterator × (goal.iterator-loop-slot).is_finite l.slot-iterator
    × ((all : List ℕ) → FramePackets l.plan.fields.slots all l.frame l.packets →
    Begun l.plan.fields all l.frame 0 l.initial.sequence.window l.initial.out →
    Begun l.plan.fields all l.frame (length l.yielded) l.sequence.window l.out)
