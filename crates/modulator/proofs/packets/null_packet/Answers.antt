use Rattle.std.proofs.Common.{refl}
use Rattle.modulator.specs.Carried.{null_packet}
use Rattle.modulator.proofs.packets.null_packet.Goals as goal

pub returns : goal.returns
unfolding null_packet
returns c = rw c.copy_from_slice.ensures.after refl
