-- What a take does. Assumes nothing.
use Rattle.std.specs.Prelude.{◌≡◌, ℕ, Bool, ◌≢◌, length, drop, nat_lt, slice_index_or}
use Rattle.feed.specs.Packets.{Packet, Lists}

-- A take from a stream whose list is not empty writes the list's first packet into the caller's buffer and leaves the rest of
-- the list. One from an empty list answers none and leaves the buffer and the list. The other lists stay.
pub record Took (before : Lists) (stream : ℕ) (taken : Bool) (after : Lists) (buffer filled : Packet) : Type 0 where
  pub answer : taken ≡ nat_lt 0 (length (before stream))
  pub written : filled ≡ slice_index_or (before stream) 0 buffer
  pub shorter : after stream ≡ drop 1 (before stream)
  pub others : (r : ℕ) → r ≢ stream → after r ≡ before r
