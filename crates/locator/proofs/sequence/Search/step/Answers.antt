use Rattle.std.proofs.Common.{◌≡◌, refl, ap, ◌∙◌, arith}
use Rattle.locator.proofs.Stepping.{found_same, found_kept, found_raised, too_many}
use Rattle.locator.specs.declared.sequence.Search.{Search}
use Rattle.locator.proofs.sequence.Search.step.Goals as goal

pub returns-then-failed-eq0 : goal.returns-then-failed-eq0
returns-then-failed-eq0 c =
    found_same c.args.sequence.now c.args.bound c.args.n c.args.self.now c.requires.found c.discrepancy_from-failed.result
    c.discrepancy_from-failed.ensures c.if-failed-eq0.true

pub returns-then-n-degree : goal.returns-then-n-degree
returns-then-n-degree c =
    let made = c.combine.ensures in
    rw made.rest (found_kept c.args.sequence.now c.args.bound c.args.n c.args.self.now c.requires.found c.discrepancy_from-failed.result
    c.discrepancy_from-failed.ensures c.combine.new.self.locator _ (omega arith)
    (omega arith) made.size made.low made.high)

pub returns-then-raised-bound : goal.returns-then-raised-bound
returns-then-raised-bound c = (
  too_many c.args.sequence.now c.args.bound c.args.n c.args.self.now c.requires.found c.discrepancy_from-failed.result
      c.discrepancy_from-failed.ensures c.args.bound c.requires.more c.if-failed-eq0.false (omega arith),
  refl,
)

pub returns : goal.returns
returns c =
    let t = c.args.self.now in
    let made = c.combine-2.ensures in
    let helper : c.combine-2.new.self.helper ≡ t.locator = ap (λ (u : Search). u.helper) made.rest ∙ c.swap.ensures.y_after in
    rw helper
    (found_raised c.args.sequence.now c.args.bound c.args.n t c.requires.found c.discrepancy_from-failed.result
    c.discrepancy_from-failed.ensures c.combine-2.new.self.locator _ _ (omega arith) c.requires.more (omega arith) (omega arith) (omega arith)
    c.if-failed-eq0.false (omega arith) made.size (rw c.swap.ensures.x_after at made.low) (rw (c.swap.ensures.x_after, c.swap.ensures.y_after) at made.high))
