-- How far the writing of a super-frame has come. Frames and slots that are done are counted from 0. Assumes nothing.
use Rattle.std.specs.Prelude.{◌≡◌, ℕ, ◌+◌, ◌-◌, ◌*◌, ◌<◌, List, [], length, slice_index_or}
use Rattle.slot_plan.specs.declared.fields.Fields.{Fields}
use Rattle.dispersal.specs.Stages.{At}
use Rattle.super_frame.specs.Carried.{packet_at, Carries}
use Rattle.super_frame.specs.Parts.{Staged}

-- the word of slot s in frame f, both from 1, of words ordered by frame, then slot
abbrev pub word_at : ℕ → List (List ℕ) → ℕ → ℕ → List ℕ
word_at slots words f s = slice_index_or words ((f - 1) * slots + (s - 1)) []

-- the packets of a frame, of all packets that are joined frame by frame and slot by slot
abbrev pub FramePackets : ℕ → List ℕ → ℕ → List (List ℕ) → Type 0
FramePackets slots all frame packets =
    (slot : ℕ) → slot < slots → slice_index_or packets slot [] ≡ packet_at slots all (frame + 1) (slot + 1)

-- the word that a slot carries, and no other word is that
pub record CarriesOnly (p : Fields) (s : ℕ) (packet word : List ℕ) : Type 0 where
  pub carried : Carries p s packet word
  pub only : (other : List ℕ) → Carries p s packet other → other ≡ word

-- Some frames are done and some slots of the next: their words stand in their parts.
pub record Begun (p : Fields) (packets : List ℕ) (frames slots window : ℕ) (out : List ℕ) : Type 0 where
  pub words : List (List ℕ)
  pub count : length words ≡ frames * p.slots + slots
  pub held :
      (frame slot : ℕ) → slot < p.slots → frame * p.slots + slot < frames * p.slots + slots →
      CarriesOnly p (slot + 1) (packet_at p.slots packets (frame + 1) (slot + 1)) (slice_index_or words (frame * p.slots + slot) [])
  pub staged : Staged p.slots (word_at p.slots words) (frames * p.slots + slots) out
  pub sequence : At window ((frames * p.slots + slots) * 204)
