use Rattle.std.proofs.Common.{◌≡◌, ℕ, List, Result, Bor, ◌<◌, get_or, vec_items, vec_len}
use Rattle.run_inputs.specs.declared.change.Change.{Change}
use Rattle.slot_plan.specs.declared.plan.Plan.{Plan}
use Rattle.job_run.proofs.files.read_installs.Given as goal

abbrev pub invariant-loop-change : goal.invariant-loop-change
invariant-loop-change l =
    (vec_len l.installs ≡ l.change-index)
    × ((k : ℕ) (no_change : Change (Bor (List ℕ))) (none : Change (Result Plan ℕ)) → k < l.change-index → (get_or (vec_items l.installs) k none).at ≡ (get_or l.changes k no_change).at)
