-- The checks of a packet file. Assumes nothing.
use Rattle.std.specs.Prelude.{◌≡◌, ℕ, ◌%◌, ◌<◌, ◌≤◌, List, length}
use Rattle.stored_feed.specs.Faults.{number}
use Rattle.stored_feed.specs.Files.{records, RecordRule}
use Rattle.stored_feed.specs.declared.fault.PacketFileFault.{PacketFileFault}
use Rattle.stored_feed.specs.declared.fault.PacketFileFault.TheVariants.{Length, Record}

-- The check that a refusal stands for passes: the file is whole records, at most 65,535; every record keeps its rule.
abbrev pub Passes : List ℕ → PacketFileFault → Type 0
Passes file Length = (length file % 189 ≡ 0) × (records file ≤ 65535)
Passes file Record = (i : ℕ) → i < records file → RecordRule file i

-- The file is a packet file: every check passes.
abbrev pub Valid : List ℕ → Type 0
Valid file = (fault : PacketFileFault) → Passes file fault

-- Checks go by number, and this one is the first that the file does not pass.
pub record Refused (file : List ℕ) (fault : PacketFileFault) : Type 0 where
  pub fails : Passes file fault → ⊥
  pub first : (other : PacketFileFault) → number other < number fault → Passes file other
