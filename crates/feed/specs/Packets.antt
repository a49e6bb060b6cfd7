-- Packets, and the lists of packets that a feed means. Assumes nothing.
use Rattle.std.specs.Prelude.{◌≡◌, ℕ, ◌<◌, ◌≤◌, List, [], length, get_or, slice_index, slice_index_or}

-- the bytes of a packet
abbrev pub Packet : Type 0
Packet = List ℕ

-- the packets that wait, by stream number
abbrev pub Lists : Type 0
Lists = ℕ → List Packet

-- A packet has 188 bytes and begins with 47h.
pub record IsPacket (p : Packet) : Type 0 where
  pub size : length p ≡ 188
  pub sync : get_or p 0 0 ≡ 0x47
  pub bytes : (k : ℕ) → slice_index p k < 256

-- There are the streams 0 to 7, and at most 65,535 packets wait in each.
pub record WellFormed (lists : Lists) : Type 0 where
  pub streams : (r : ℕ) → 8 ≤ r → lists r ≡ []
  pub short : (r : ℕ) → length (lists r) ≤ 65535
  pub packets : (r k : ℕ) → k < length (lists r) → IsPacket (slice_index_or (lists r) k [])
