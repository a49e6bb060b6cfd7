-- What filling a super-frame from a station's files answers, as a number. Assumes nothing.
use Rattle.std.specs.Prelude.{◌≡◌, ℕ, ◌⊎◌, List, length, ◌≢◌}
use Rattle.slot_plan.specs.declared.fields.Fields.{Fields}
use Rattle.plan_formats.specs.Formats.{PlanFile}
use Rattle.feed.specs.Packets.{Lists}
use Rattle.stored_feed.specs.Faults.{number}
use Rattle.stored_feed.specs.Files.{whole}
use Rattle.stored_feed.specs.Rules.{Valid, Refused}
use Rattle.stored_feed.specs.declared.fault.PacketFileFault.{PacketFileFault}
use Rattle.frame_layout.specs.Layout.{super_size}
use Rattle.modulator.specs.Fills.{Has, Sent, Filled}
use Rattle.modulator.specs.declared.state.Loaded.{Loaded}
use Rattle.rondvysti_bench.specs.Frames.{FileRefused}

-- the first super-frame of the plan, with order of change 0, is filled from the file's packets
pub record FirstFilled (f : Fields) (packets out : List ℕ) : Type 0 where
  pub modulator : Loaded
  pub loaded : Has modulator 0 f
  pub lists : Lists
  pub waited : (r : ℕ) → lists r ≡ whole packets r
  pub sent : Sent
  pub rest : Lists
  pub filled : Filled modulator lists sent out rest

-- 0, and it is; or 8 for a buffer of another length, or else the packet file's refusal, and the buffer is as it was
abbrev pub FilledOr : Fields → List ℕ → List ℕ → ℕ → List ℕ → Type 0
FilledOr f packets before r out =
    ((r ≡ 0) × Valid packets × (length before ≡ super_size f.slots) × FirstFilled f packets out)
    ⊎ (((r ≡ 8) × (length before ≢ super_size f.slots) × (out ≡ before))
    ⊎ ((fault : PacketFileFault) × (r ≡ number fault) × (length before ≡ super_size f.slots) × Refused packets fault × (out ≡ before)))

-- the same of the plan of a file, or the file is refused and the buffer is as it was
abbrev pub FilledAs : List ℕ → List ℕ → List ℕ → ℕ → List ℕ → Type 0
FilledAs file packets before r out =
    ((f : Fields) × PlanFile file f × FilledOr f packets before r out) ⊎ (FileRefused file r × (out ≡ before))
