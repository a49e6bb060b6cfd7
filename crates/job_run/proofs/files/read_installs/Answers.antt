use Rattle.std.proofs.Common.{◌≡◌, ℕ, List, Result, Bor, ◌+◌, get_or, vec_items, sym, refl, ap, ◌∙◌, arith, below_more}
use Rattle.std.proofs.lemmas.List.{get_or_default}
use Rattle.run_inputs.specs.declared.change.Change.{Change}
use Rattle.slot_plan.specs.declared.plan.Plan.{Plan}
use Rattle.job_run.proofs.files.read_installs.Goals as goal

pub loop-change-preserved : goal.loop-change-preserved
loop-change-preserved c =
    let changes = c.args.changes.now in
    let index = c.loop-change.change-index in
    let after = c.push.new.self in
    let put = c.in_ok-push.ensures in
    let P : ℕ → Type 0 = λ k. (no_change : Change (Bor (List ℕ))) (none : Change (Result Plan ℕ)) → (get_or (vec_items after) k none).at ≡ (get_or changes k no_change).at in (
      put.len ∙ ap (λ (n : ℕ). n + 1) c.loop-change.invariant.0,
      λ k no_change none below.
          below_more P index
          (λ i h d e. ap (λ (x : Change (Result Plan ℕ)). x.at) (put.by_index.0 i e (omega (arith, h, c.loop-change.invariant.0))) ∙ c.loop-change.invariant.1 i d e h)
          (λ d e.
          let last = ap (λ (n : ℕ). get_or (vec_items after) n e) (sym c.loop-change.invariant.0) ∙ put.by_index.1 e refl in
          ap (λ (x : Change (Result Plan ℕ)). x.at) last ∙ ap (λ (x : Change (Bor (List ℕ))). x.at) (get_or_default changes index _ d c.loop-change-test.true))
          k below no_change none,
    )
