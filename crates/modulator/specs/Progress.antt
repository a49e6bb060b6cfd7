-- How far the taking of a super-frame's packets has come. Frames and slots that are done are counted from 0. Assumes nothing.
use Rattle.std.specs.Prelude.{◌≡◌, ℕ, ◌+◌, ◌*◌, ◌<◌, true, cond, List, [], drop, slice_index_or}
use Rattle.slot_plan.specs.Layout.{active, stream}
use Rattle.slot_plan.specs.declared.fields.Fields.{Fields}
use Rattle.feed.specs.Packets.{Packet, Lists}
use Rattle.modulator.specs.Carried.{null_packet, serves, serving, carried}

-- An active slot takes the next packet of its stream, or the null packet where none waits; a dummy slot takes none.
pub record NextPacket (p : Fields) (slot : ℕ) (before : Lists) (packet : Packet) (after : Lists) : Type 0 where
  pub active_slot : active p slot ≡ true → packet ≡ slice_index_or (before (stream p slot)) 0 null_packet
  pub rest : (r : ℕ) → after r ≡ drop (cond (serves p r slot) 1 0) (before r)

-- Some frames are done and some slots of the next: the packets of their active slots are taken, and the others wait.
pub record TakenUpTo (p : Fields) (start : Lists) (frames slots : ℕ) (waiting : Lists) (packets : List Packet) : Type 0 where
  pub held :
      (frame slot : ℕ) → slot < p.slots → frame * p.slots + slot < frames * p.slots + slots → active p (slot + 1) ≡ true →
      slice_index_or packets (frame * p.slots + slot) [] ≡ carried p start (frame + 1) (slot + 1)
  pub rest : (r : ℕ) → waiting r ≡ drop (frames * serving p r p.slots + serving p r slots) (start r)
