use Rattle.std.proofs.Common.{◌≡◌, ◌+◌, ◌-◌, ◌*◌, length, vec_items}
use Rattle.super_frame_cases.proofs.packets.packets.Given as goal

abbrev pub invariant-loop-slot : goal.invariant-loop-slot
invariant-loop-slot l = length (vec_items l.all) ≡ l.counter * (l.plan.fields.slots * 188) + (l.slot - 1) * 188

abbrev pub invariant-loop : goal.invariant-loop
invariant-loop l = length (vec_items l.all) ≡ l.counter * (l.plan.fields.slots * 188)
