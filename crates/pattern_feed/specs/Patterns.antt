-- The packets of a pattern feed. Assumes nothing.
use Rattle.std.specs.Prelude.{ℕ, ◌+◌, ◌-◌, ◌/◌, ◌%◌, List, ◌∷◌, map, replicate, slice_index}
use Rattle.std.specs.List.{range_with_len}
use Rattle.feed.specs.Packets.{Packet, Lists}

-- packet n of stream r, n counted from 0
unfoldable pub pattern : ℕ → ℕ → Packet
pattern r n = 0x47 ∷ 0x01 ∷ r ∷ (0x10 + n % 16) ∷ n / 256 ∷ n % 256 ∷ replicate 182 (n % 256)

-- the packets of stream r from packet `first` up to packet `end`, `end` left out
unfoldable pub patterns : ℕ → ℕ → ℕ → List Packet
patterns r first end = map (pattern r) (range_with_len first (end - first))

-- of each stream the packets from its next number up to its count
abbrev pub remaining : List ℕ → List ℕ → Lists
remaining next counts r = patterns r (slice_index next r) (slice_index counts r)

-- of each stream all its packets, as many as its count
abbrev pub whole : List ℕ → Lists
whole counts r = patterns r 0 (slice_index counts r)
