-- Runs from plan files and packets. Assumes nothing.
use Rattle.std.specs.Prelude.{◌≡◌, ℕ, List, Ok, Err, Result}
use Rattle.feed.specs.Packets.{Lists}
use Rattle.pattern_feed.specs.Patterns as pattern
use Rattle.stored_feed.specs.Files as file
use Rattle.stored_feed.specs.Faults.{number}
use Rattle.stored_feed.specs.Rules.{Valid}
use Rattle.stored_feed.specs.Rules as rules
use Rattle.stored_feed.specs.declared.fault.PacketFileFault.{PacketFileFault}
use Rattle.slot_plan.specs.declared.fields.Fields.{Fields}
use Rattle.transmission.specs.Courses.{Course}
use Rattle.transmission.specs.Transmissions.{Transmitted}
use Rattle.transmission.specs.declared.event.Event.{Event}
use Rattle.transmission.specs.declared.event.Event.TheVariants.{PlanRefused, PacketsRefused}
use Rattle.run_inputs.specs.declared.change.Change.{Change}
use Rattle.run_inputs.specs.declared.source.Source.{Source}
use Rattle.run_inputs.specs.declared.source.Source.TheVariants.{File, Pattern}
use Rattle.slot_plan.specs.declared.plan.Plan.{Plan}
use denote.Ref.{Bor}

module _ {O : Type 0} (begins : O → O → Type 0) (sends : O → List ℕ → O → Type 0) (hears : O → Event → O → Type 0) where
  -- a whole run of the packets in these lists, which an outlet is sent once it is ready
  pub record RunOf (lists : Lists) (p : Fields) (installs : List (Change (Result Plan ℕ))) (n : ℕ) (o q : O) : Type 0 where
    pub before : Lists
    pub after : Lists
    pub all : (r : ℕ) → before r ≡ lists r
    pub frames : List (List ℕ)
    pub run : Transmitted p installs n before after frames
    pub ready : O
    pub begun : begins o ready
    pub course : Course sends hears ready q frames

  -- the run of the source's packets, or the number of its refusal is told
  abbrev pub Sourced : Source (Bor (List ℕ)) → Fields → List (Change (Result Plan ℕ)) → ℕ → O → O → Type 0
  Sourced (Pattern counts) p installs n o q = RunOf (pattern.whole counts) p installs n o q
  Sourced (File bytes) p installs n o q =
      (Valid bytes.now → RunOf (file.whole bytes.now) p installs n o q)
      × ((fault : PacketFileFault) → rules.Refused bytes.now fault → hears o (PacketsRefused (number fault)) q)

  -- the same, or the number of the plan's refusal is told
  abbrev pub Performed : Result Plan ℕ → Source (Bor (List ℕ)) → List (Change (Result Plan ℕ)) → ℕ → O → O → Type 0
  Performed (Ok plan) source installs n o q = Sourced source plan.fields installs n o q
  Performed (Err refusal) source installs n o q = hears o (PlanRefused refusal) q
