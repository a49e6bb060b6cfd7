-- The words of a super-frame that carries packets as a plan says. Frames and slots count from 1. Assumes nothing.
use Rattle.std.specs.Prelude.{◌≡◌, ℕ, ◌+◌, ◌-◌, ◌*◌, ◌≤◌, true, false, List, length, take, drop, replicate, slice_index}
use Rattle.frame_layout.specs.Layout.{super_size, SuperFrame}
use Rattle.outer_code.specs.Words.{CodedWord}
use Rattle.slot_plan.specs.Layout.{active}
use Rattle.slot_plan.specs.declared.fields.Fields.{Fields}
use Rattle.super_frame.specs.Reads.{words_size, word_of, Read}

-- the word of a packet: the codeword of 204 bytes that has it as its data
abbrev pub IsSlotWord : List ℕ → List ℕ → Type 0
IsSlotWord packet word = CodedWord 204 packet word

-- 204 bytes 00h
unfoldable pub zeros : List ℕ
zeros = replicate 204 0

-- what slot s of a frame carries: the word of its packet in an active slot, and 204 zeros in a dummy slot
pub record Carries (p : Fields) (s : ℕ) (packet word : List ℕ) : Type 0 where
  pub active_slot : active p s ≡ true → IsSlotWord packet word
  pub dummy_slot : active p s ≡ false → word ≡ zeros

-- of packets that are joined frame by frame and slot by slot, the one of slot s in frame f
abbrev pub packet_at : ℕ → List ℕ → ℕ → ℕ → List ℕ
packet_at slots packets f s = take 188 (drop (188 * ((f - 1) * slots + (s - 1))) packets)

-- each slot of each frame carries its packet
abbrev pub AllCarried : Fields → List ℕ → (ℕ → ℕ → List ℕ) → Type 0
AllCarried p packets words =
    (f s : ℕ) → 1 ≤ f → f ≤ 8 → 1 ≤ s → s ≤ p.slots → Carries p s (packet_at p.slots packets f s) (words f s)

-- there are as many packets as slots in eight frames, and the buffer has the length of a super-frame
abbrev pub Fits : Fields → List ℕ → List ℕ → Type 0
Fits p packets buffer = (length packets ≡ 188 * (8 * p.slots)) × (length buffer ≡ super_size p.slots)

-- Whoever reads the super-frame reads the TMCC word and, where an active slot's packet begins with 47h, the packet's word.
abbrev pub ReadAgain : Fields → List ℕ → List ℕ → List ℕ → Type 0
ReadAgain p tmcc packets out =
    (tmcc-read words : List ℕ) → length tmcc-read ≡ 64 → length words ≡ words_size p.slots → Read p.slots out tmcc-read words →
    (tmcc-read ≡ tmcc)
    × ((f s : ℕ) → 1 ≤ f → f ≤ 8 → 1 ≤ s → s ≤ p.slots → active p s ≡ true → slice_index (packet_at p.slots packets f s) 0 ≡ 0x47 →
    IsSlotWord (packet_at p.slots packets f s) (word_of p.slots words f s))

-- The super-frame that carries these packets and this TMCC word was written.
pub record Written (p : Fields) (tmcc packets out : List ℕ) : Type 0 where
  pub words : ℕ → ℕ → List ℕ
  pub carried : AllCarried p packets words
  pub bytes : SuperFrame p.slots tmcc words out
  pub back : ReadAgain p tmcc packets out
