-- What a fill does. Frames and slots count from 1. Assumes nothing.
use Rattle.std.specs.Prelude.{◌≡◌, ℕ, zero, suc, ◌+◌, ◌-◌, ◌*◌, ◌≤◌, List, [], ◌++◌, map, length, take, drop, Ok, Err, Result}
use Rattle.slot_plan.specs.Views.{active_up_to}
use Rattle.slot_plan.specs.declared.fields.Fields.{Fields}
use Rattle.plan_formats.specs.Kept.{Keeps}
use Rattle.feed.specs.Packets.{Packet, Lists}
use Rattle.frame_layout.specs.Layout.{super_size, SuperFrame}
use Rattle.super_frame.specs.Carried.{Carries}
use Rattle.tmcc_word.specs.Words.{IsTmccWord}
use Rattle.modulator.specs.Carried.{slots_of, carried, in_super_frame}
use Rattle.modulator.specs.declared.fault.ModulatorFault.{ModulatorFault}
use Rattle.modulator.specs.declared.fault.ModulatorFault.TheVariants.{Length}
use Rattle.modulator.specs.declared.state.Loaded.{Loaded}
use Rattle.modulator.specs.declared.state.Tally.{Tally}

-- a loaded modulator's order of change and plan
pub record Has (m : Loaded) (order : ℕ) (p : Fields) : Type 0 where
  pub order_is : m.order.value ≡ order
  pub plan_is : Keeps m.kept.slots m.kept.packed p

-- a super-frame that was sent: its order of change and plan, its words, and the packets that waited as its fill began
pub record Sent : Type 0 where
  pub order : ℕ
  pub plan : Fields
  pub tmcc : List ℕ
  pub words : ℕ → ℕ → List ℕ
  pub waited : Lists

-- the data of the words in a stream's active slots of the frames 1 to n, ordered by frame, then slot
unfoldable pub carried_in : Sent → ℕ → ℕ → List Packet
carried_in sent r zero = []
carried_in sent r (suc n) =
    carried_in sent r n ++ map (λ s. take 188 (sent.words (suc n) s)) (slots_of sent.plan r sent.plan.slots)

-- what a stream's active slots carry
abbrev pub all_carried : Sent → ℕ → List Packet
all_carried sent r = carried_in sent r 8

-- The packets placed: where w waited, those in the stream's first w active slots, or in all of them if they are fewer.
unfoldable pub placed : Sent → ℕ → List Packet
placed sent r = take (length (sent.waited r)) (all_carried sent r)

-- the sum of a number for each of the streams 0 to n − 1
unfoldable pub over_streams : (ℕ → ℕ) → ℕ → ℕ
over_streams f zero = 0
over_streams f (suc n) = over_streams f n + f n

-- how many packets a super-frame placed, and in how many active slots it placed none
pub record Counted (sent : Sent) (tally : Tally) : Type 0 where
  pub placed_packets : tally.placed ≡ over_streams (λ r. length (placed sent r)) 8
  pub null_packets : tally.nulls ≡ 8 * active_up_to sent.plan sent.plan.slots - tally.placed

-- A fill wrote the super-frame of the plan, the order of change and the packets that waited, and left the packets behind those that it carries.
pub record Filled (m : Loaded) (before : Lists) (sent : Sent) (out : List ℕ) (after : Lists) : Type 0 where
  pub state : Has m sent.order sent.plan
  pub lists : sent.waited ≡ before
  pub tmcc_word : IsTmccWord sent.tmcc sent.order sent.plan
  pub slot_words :
      (f s : ℕ) → 1 ≤ f → f ≤ 8 → 1 ≤ s → s ≤ sent.plan.slots → Carries sent.plan s (carried sent.plan sent.waited f s) (sent.words f s)
  pub written : SuperFrame sent.plan.slots sent.tmcc sent.words out
  pub rest : (r : ℕ) → after r ≡ drop (in_super_frame sent.plan r) (before r)

-- A buffer that has not the length of a super-frame is refused: it stays as it was, and nothing is taken.
pub record FillRefused (m : Loaded) (before : Lists) (buffer : List ℕ) (fault : ModulatorFault) (out : List ℕ) (after : Lists) : Type 0 where
  pub wrong : length buffer ≡ super_size m.kept.slots → ⊥
  pub named : fault ≡ Length
  pub untouched : out ≡ buffer
  pub untaken : (r : ℕ) → after r ≡ before r

-- a fill is done exactly if the buffer has the length of a super-frame, and else refused
abbrev pub Fill : Loaded → Lists → List ℕ → Result Tally ModulatorFault → List ℕ → Lists → Type 0
Fill m before buffer (Ok tally) out after =
    (length buffer ≡ super_size m.kept.slots) × ((sent : Sent) × Filled m before sent out after × Counted sent tally)
Fill m before buffer (Err fault) out after = FillRefused m before buffer fault out after
