-- What opening a file does. Assumes nothing.
use Rattle.std.specs.Prelude.{◌≡◌, ℕ, List, Ok, Err, Result}
use Rattle.stored_feed.specs.Files.{whole}
use Rattle.stored_feed.specs.Pending.{pending}
use Rattle.stored_feed.specs.Rules.{Valid, Refused}
use Rattle.stored_feed.specs.declared.fault.PacketFileFault.{PacketFileFault}
use Rattle.stored_feed.specs.declared.state.StoredFeed.{StoredFeed}

-- A packet file becomes the feed of its lists. A file that is refused becomes none.
abbrev pub Opened : List ℕ → Result StoredFeed PacketFileFault → Type 0
Opened file (Ok feed) = Valid file × ((r : ℕ) → pending feed r ≡ whole file r)
Opened file (Err fault) = Refused file fault
