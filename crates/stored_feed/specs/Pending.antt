-- The lists that a stored feed means. Assumes nothing.
use Rattle.feed.specs.Packets.{Lists}
use Rattle.stored_feed.specs.Cursors.{next_of}
use Rattle.stored_feed.specs.Files.{remaining}
use Rattle.stored_feed.specs.declared.state.StoredFeed.{StoredFeed}

-- of each stream the packets from its cursor on
abbrev pub pending : StoredFeed → Lists
pending f = remaining f.file.now (next_of f.cursors)
