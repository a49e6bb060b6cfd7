-- The lists that a pattern feed means. Assumes nothing.
use Rattle.feed.specs.Packets.{Lists}
use Rattle.pattern_feed.specs.Numbers.{next_of, counts_of}
use Rattle.pattern_feed.specs.Patterns.{remaining}
use Rattle.pattern_feed.specs.declared.state.PatternFeed.{PatternFeed}

-- of each stream the packets from its next one on
abbrev pub pending : PatternFeed → Lists
pending f = remaining (next_of f.left) (counts_of f.left)
