-- A packet file: records of 189 bytes, each a stream number byte and a packet. Records count from 0. Assumes nothing.
use Rattle.std.specs.Prelude.{◌≡◌, ℕ, ◌+◌, ◌-◌, ◌*◌, ◌/◌, ◌≤◌, List, map, length, take, drop, filter, nat_eq, slice_index}
use Rattle.std.specs.List.{range_with_len}
use Rattle.feed.specs.Packets.{Packet, Lists}

-- how many records the file has
abbrev pub records : List ℕ → ℕ
records file = length file / 189

-- the stream number of record i
abbrev pub stream_at : List ℕ → ℕ → ℕ
stream_at file i = slice_index file (189 * i)

-- the packet of record i
unfoldable pub packet_at : List ℕ → ℕ → Packet
packet_at file i = take 188 (drop (189 * i + 1) file)

-- the packets of stream r in the records from record `first` on, in file order
unfoldable pub packets_from : List ℕ → ℕ → ℕ → List Packet
packets_from file r first =
    map (packet_at file) (filter (λ i. nat_eq (stream_at file i) r) (range_with_len first (records file - first)))

-- of each stream the packets from its cursor on
abbrev pub remaining : List ℕ → List ℕ → Lists
remaining file cursors r = packets_from file r (slice_index cursors r)

-- of each stream all its packets, in file order
abbrev pub whole : List ℕ → Lists
whole file r = packets_from file r 0

-- a record has one of the eight stream numbers, and its packet begins with 47h
abbrev pub RecordRule : List ℕ → ℕ → Type 0
RecordRule file i = (stream_at file i ≤ 7) × (slice_index file (189 * i + 1) ≡ 0x47)
