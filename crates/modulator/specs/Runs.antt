-- Runs of a loaded modulator and a feed, and the law that no packet is lost or doubled. Assumes nothing.
use Rattle.std.specs.Prelude.{◌≡◌, ℕ, ◌<◌, ◌≤◌, List, [], ◌∷◌, ◌++◌, length, Ok, Err, Result, slice_index_or}
use Rattle.slot_plan.specs.declared.fields.Fields.{Fields}
use Rattle.feed.specs.Packets.{Packet, Lists}
use Rattle.modulator.specs.Carried.{null_packet}
use Rattle.modulator.specs.Fills.{Sent, all_carried, placed, Counted, Filled, FillRefused}
use Rattle.modulator.specs.States.{Load, Install}
use Rattle.modulator.specs.declared.fault.ModulatorFault.{ModulatorFault}
use Rattle.modulator.specs.declared.state.Bare.{Bare}
use Rattle.modulator.specs.declared.state.Loaded.{Loaded}
use Rattle.modulator.specs.declared.state.Tally.{Tally}
use Rattle.modulator.specs.declared.state.Unloaded.{Unloaded}

-- the packets of a stream that some super-frames placed, of which the last comes first
unfoldable pub placed_so_far : List Sent → ℕ → List Packet
placed_so_far [] r = []
placed_so_far (sent ∷ earlier) r = placed_so_far earlier r ++ placed sent r

-- in the active slots in which none was placed there are null packets
abbrev pub Idle : Sent → Type 0
Idle sent =
    (r k : ℕ) → length (sent.waited r) ≤ k → k < length (all_carried sent r) → slice_index_or (all_carried sent r) k [] ≡ null_packet

-- of each of them
unfoldable pub Each : (Sent → Type 0) → List Sent → Type 0
Each P [] = Unit {0}
Each P (sent ∷ earlier) = P sent × Each P earlier

-- Any number of calls after a load, in any order, refused ones among them. At its end the modulator is m, these packets wait, and
-- these super-frames were sent, the last first.
pub data Run (start : Lists) : Loaded → Lists → List Sent → Type 0 where
  loaded : {m : Loaded} (bare : Bare) (p : Fields) → Load bare p (Ok m) → Run start m start []
  filled :
      {m : Loaded} {before after : Lists} {earlier : List Sent} (sent : Sent) (out : List ℕ) →
      Run start m before earlier → Filled m before sent out after → Run start m after (sent ∷ earlier)
  refused :
      {m : Loaded} {before after : Lists} {earlier : List Sent} (buffer : List ℕ) (fault : ModulatorFault) (out : List ℕ) →
      Run start m before earlier → FillRefused m before buffer fault out after → Run start m after earlier
  installed :
      {m after : Loaded} {waiting : Lists} {earlier : List Sent} (p : Fields) (answer : Result (Unit {0}) ModulatorFault) →
      Run start m waiting earlier → Install m p answer after → Run start after waiting earlier

-- For each stream the packets placed so far, followed by those that still wait, are those that waited at the start, in order, and
-- each active slot in which none was placed carries the null packet.
pub record NothingLost (start waiting : Lists) (sent : List Sent) : Type 0 where
  pub packets : (r : ℕ) → placed_so_far sent r ++ waiting r ≡ start r
  pub nulls : Each Idle sent

-- a run that keeps the law
pub record Lawful (start : Lists) (m : Loaded) (waiting : Lists) (sent : List Sent) : Type 0 where
  pub run : Run start m waiting sent
  pub law : NothingLost start waiting sent

-- with a load a run begins, whatever waits
abbrev pub Begins : Result Loaded Unloaded → Type 0
Begins (Ok m) = (start : Lists) → Lawful start m start []
Begins (Err _) = Unit {0}

-- a fill continues any run, by the super-frame that it wrote and counted if it is done
abbrev pub FillContinues : Loaded → Lists → Result Tally ModulatorFault → List ℕ → Lists → Type 0
FillContinues m before (Ok tally) out after =
    (sent : Sent) × Filled m before sent out after
    × ((start : Lists) (earlier : List Sent) → Run start m before earlier → Lawful start m after (sent ∷ earlier))
    × Counted sent tally
FillContinues m before (Err _) out after =
    (start : Lists) (earlier : List Sent) → Run start m before earlier → Lawful start m after earlier

-- an install, done or refused, continues any run
abbrev pub InstallContinues : Loaded → Loaded → Type 0
InstallContinues m after =
    (start waiting : Lists) (earlier : List Sent) → Run start m waiting earlier → Lawful start after waiting earlier

-- the law of runs, from any start
abbrev pub Law : Type 0
Law = (start : Lists) (m : Loaded) (waiting : Lists) (sent : List Sent) → Run start m waiting sent → NothingLost start waiting sent
