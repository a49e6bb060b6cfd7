-- What a run does to the modulator and the feed. Assumes nothing.
use Rattle.std.specs.Prelude.{◌≡◌, ℕ, suc, ◌+◌, List, [], ◌∷◌, length, Result}
use Rattle.slot_plan.specs.declared.fields.Fields.{Fields}
use Rattle.feed.specs.Packets.{Lists}
use Rattle.modulator.specs.Fills.{Sent, Has, Filled}
use Rattle.modulator.specs.Runs.{Run, Lawful}
use Rattle.modulator.specs.declared.state.Loaded.{Loaded}
use Rattle.transmission.specs.Plans.{OnAir, on_air}
use Rattle.run_inputs.specs.declared.change.Change.{Change}
use Rattle.slot_plan.specs.declared.plan.Plan.{Plan}

-- the modulator has this plan and order of change
abbrev pub Airs : Loaded → OnAir → Type 0
Airs m a = Has m a.order a.plan

-- every run that leads to the first modulator leads to the second, with the same packets and super-frames
abbrev pub Continues : Loaded → Loaded → Type 0
Continues m next =
    (start waiting : Lists) (sent : List Sent) → Run start m waiting sent → Run start next waiting sent

-- a super-frame has this plan and order of change
abbrev pub HasPlan : Sent → OnAir → Type 0
HasPlan sent a = (sent.order ≡ a.order) × (sent.plan ≡ a.plan)

-- the modulator's fill wrote a super-frame of this plan into these bytes, and took the lists from the first to the second
abbrev pub FillsOn : OnAir → Loaded → Lists → List ℕ → Lists → Type 0
FillsOn a m before bytes after = (sent : Sent) × HasPlan sent a × Filled m before sent bytes after

-- each super-frame, of which the last comes first, has the plan and the order of change that the installs before it left
unfoldable pub Planned : Fields → List (Change (Result Plan ℕ)) → List Sent → Type 0
Planned p installs [] = Unit {0}
Planned p installs (sent ∷ earlier) = HasPlan sent (on_air p installs (suc (length earlier))) × Planned p installs earlier

-- some fill wrote each super-frame into its bytes
unfoldable pub Written : List Sent → List (List ℕ) → Type 0
Written [] [] = Unit {0}
Written [] (bytes ∷ frames) = ⊥
Written (sent ∷ earlier) [] = ⊥
Written (sent ∷ earlier) (bytes ∷ frames) =
    ((m : Loaded) × (before : Lists) × (after : Lists) × Filled m before sent bytes after) × Written earlier frames

-- n super-frames of a run are sent, with these bytes
pub record Reached (p : Fields) (installs : List (Change (Result Plan ℕ))) (start : Lists) (n : ℕ) (m : Loaded) (waiting : Lists) (frames : List (List ℕ)) : Type 0 where
  pub sent : List Sent
  pub number : length sent ≡ n
  pub planned : Planned p installs sent
  pub written : Written sent frames
  pub state : Airs m (on_air p installs n)
  pub run : Run start m waiting sent

-- A whole run of n super-frames with these bytes, the last first: each has the plan and the order of change that the installs before
-- it left, and of the packets that waited none is lost or doubled.
pub record Transmitted (p : Fields) (installs : List (Change (Result Plan ℕ))) (n : ℕ) (before after : Lists) (frames : List (List ℕ)) : Type 0 where
  pub sent : List Sent
  pub number : length sent ≡ n
  pub planned : Planned p installs sent
  pub written : Written sent frames
  pub last : Loaded
  pub lawful : Lawful before last after sent

-- Whatever run led to the first modulator and the first lists, it goes on to the second by so many super-frames, and keeps the law.
abbrev pub GoesOn : ℕ → Loaded → Lists → Loaded → Lists → Type 0
GoesOn n m before next after =
    (start : Lists) (earlier : List Sent) → Run start m before earlier →
    (sent : List Sent) × (length sent ≡ length earlier + n) × Lawful start next after sent

-- A whole run, from a load on, sends so many super-frames and takes the lists from the first to the second: no packet is lost or doubled.
abbrev pub WholeRun : ℕ → Lists → Lists → Type 0
WholeRun n before after = (m : Loaded) × (sent : List Sent) × (length sent ≡ n) × Lawful before m after sent
