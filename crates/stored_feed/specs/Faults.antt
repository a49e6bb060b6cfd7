-- The refusals of a packet file and their numbers, in the order in which they are checked. Assumes nothing.
use Rattle.std.specs.Prelude.{ℕ}
use Rattle.stored_feed.specs.declared.fault.PacketFileFault.{PacketFileFault}
use Rattle.stored_feed.specs.declared.fault.PacketFileFault.TheVariants.{Length, Record}

abbrev pub number : PacketFileFault → ℕ
number Length = 17
number Record = 18
