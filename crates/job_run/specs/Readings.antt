-- What is made of the files that a job names. Assumes nothing.
use Rattle.std.specs.Prelude.{◌≡◌, ℕ, ◌<◌, List, [], length, Result, vec_items, slice_index_or}
use Rattle.std.specs.declared.alloc.Global.{Global}
use Rattle.std.specs.declared.vec.Vec.{Vec}
use Rattle.modulate_job.specs.declared.job.Job.{Job}
use Rattle.run_inputs.specs.declared.change.Change.{Change}
use Rattle.run_inputs.specs.declared.source.Source.{Source}
use Rattle.run_inputs.specs.declared.source.Source.TheVariants.{File, Pattern}
use Rattle.slot_plan.specs.declared.plan.Plan.{Plan}
use Rattle.transmission.specs.Performances.{Performed}
use Rattle.transmission.specs.declared.event.Event.{Event}
use denote.Ref.{Bor}

-- an install for each change, before the same super-frame
pub record Installs (changes : List (Change (Bor (List ℕ)))) (installs : List (Change (Result Plan ℕ))) : Type 0 where
  pub size : length installs ≡ length changes
  pub each :
      (k : ℕ) (no_change : Change (Bor (List ℕ))) (none : Change (Result Plan ℕ)) → k < length changes →
      (slice_index_or installs k none).at ≡ (slice_index_or changes k no_change).at

-- some file is read where packets come from a file, and else the pattern has the same counts
abbrev pub Read : Source (Bor (List ℕ)) → Source (Vec ℕ Global) → Type 0
Read (File path) (File own) = Unit {0}
Read (File path) (Pattern own) = ⊥
Read (Pattern counts) (File own) = ⊥
Read (Pattern counts) (Pattern own) = own ≡ counts

-- the bytes of the file that is read, and none of a pattern
abbrev pub held : Source (Vec ℕ Global) → List ℕ
held (File own) = vec_items own
held (Pattern counts) = []

-- a file's bytes are the source where packets come from a file, and else the counts of the pattern
abbrev pub Chosen : Source (Bor (List ℕ)) → List ℕ → Source (Bor (List ℕ)) → Type 0
Chosen (File path) bytes (File own) = own.now ≡ bytes
Chosen (File path) bytes (Pattern counts) = ⊥
Chosen (Pattern counts) bytes (File own) = ⊥
Chosen (Pattern counts) bytes (Pattern own) = own ≡ counts

-- The run of a job into an outlet: what some plan file states, the source of the job's packets, installs for its changes, and its number of super-frames.
pub record Ran {O : Type 0} (begins : O → O → Type 0) (sends : O → List ℕ → O → Type 0) (hears : O → Event → O → Type 0) (job : Job) (o q : O) : Type 0 where
  pub stated : Result Plan ℕ
  pub bytes : List ℕ
  pub source : Source (Bor (List ℕ))
  pub installs : List (Change (Result Plan ℕ))
  pub chosen : Chosen job.packets bytes source
  pub changes : Installs (vec_items job.changes) installs
  pub performed : Performed begins sends hears stated source installs job.count o q
