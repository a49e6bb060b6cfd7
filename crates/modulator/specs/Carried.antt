-- Which packets the active slots of a super-frame carry. Frames and slots count from 1, the packets of a list from 0. Assumes nothing.
use Rattle.std.specs.Prelude.{ℕ, zero, suc, ◌+◌, ◌-◌, ◌*◌, Bool, cond, ◌&&◌, List, [], ◌∷◌, ◌++◌, length, replicate, ◌==◌, slice_index_or}
use Rattle.slot_plan.specs.Layout.{active, stream}
use Rattle.slot_plan.specs.declared.fields.Fields.{Fields}
use Rattle.feed.specs.Packets.{Packet, Lists}

-- 47h 1Fh FFh 10h and 184 bytes FFh
unfoldable pub null_packet : Packet
null_packet = 0x47 ∷ 0x1F ∷ 0xFF ∷ 0x10 ∷ replicate 184 0xFF

-- whether a slot is active and has the stream
unfoldable pub serves : Fields → ℕ → ℕ → Bool
serves p r slot = active p slot && (stream p slot) == r

-- the active slots of a stream among the slots 1 to n of a frame, in order
unfoldable pub slots_of : Fields → ℕ → ℕ → List ℕ
slots_of p r zero = []
slots_of p r (suc n) = slots_of p r n ++ cond (serves p r (suc n)) (suc n ∷ []) []

-- how many of them there are
unfoldable pub serving : Fields → ℕ → ℕ → ℕ
serving p r n = length (slots_of p r n)

-- how many active slots of a stream come before slot s of frame f, ordered by frame, then slot
abbrev pub earlier : Fields → ℕ → ℕ → ℕ → ℕ
earlier p r f s = (f - 1) * serving p r p.slots + serving p r (s - 1)

-- how many the eight frames have
abbrev pub in_super_frame : Fields → ℕ → ℕ
in_super_frame p r = 8 * serving p r p.slots

-- The packet that the active slot s of frame f carries, by the packets that waited: of its stream one for each active slot before it
-- is gone, and where none is left it is the null packet.
unfoldable pub carried : Fields → Lists → ℕ → ℕ → Packet
carried p waited f s = slice_index_or (waited (stream p s)) (earlier p (stream p s) f s) null_packet
