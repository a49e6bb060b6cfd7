-- What a search for a stream's next record answers. Assumes nothing.
use Rattle.std.specs.Prelude.{◌≡◌, ℕ, ◌+◌, ◌<◌, List, [], ◌∷◌, Some, None, Option}
use Rattle.stored_feed.specs.Files.{records, packet_at, packets_from}

-- From record `from` on, the record of stream r whose packet comes first, or none where the stream has no more packets
abbrev pub Next : List ℕ → ℕ → ℕ → Option ℕ → Type 0
Next file r from None = packets_from file r from ≡ []
Next file r from (Some i) =
    (i < records file) × (packets_from file r from ≡ packet_at file i ∷ packets_from file r (i + 1))
