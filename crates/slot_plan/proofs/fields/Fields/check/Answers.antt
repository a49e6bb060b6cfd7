use Rattle.std.proofs.Common.{refl, arith}
use Rattle.slot_plan.proofs.Checked.{valid_from, spare_first}
use Rattle.slot_plan.proofs.Numbers.{contained}
use Rattle.slot_plan.proofs.fields.Fields.check.Goals as goal
use Rattle.slot_plan.proofs.fields.Fields.check.Goals.{then-self-ge-CONTROL_END-via-then-self-ge-CONTROL_END, then-self-ge-CONTROL_END-via-else-self-ge-CONTROL_END+then-self-ge-EXPANDED_END}

pub returns-then-self-ge-CONTROL_END : goal.returns-then-self-ge-CONTROL_END
returns-then-self-ge-CONTROL_END c =
    spare_first c.args.self.now (contained 1 48 c.if-not-contains.ensures.cases c.new.ensures.start c.new.ensures.end) c.in_default.ensures
    c.in_default-wrong_count.ensures (c.if-not-sum_is_right.ensures.0 refl) c.in_default-wrong_stream.ensures
    (λ spare.
    elim c.then-self-ge-CONTROL_END.branch [
      | then-self-ge-CONTROL_END-via-then-self-ge-CONTROL_END w ↦
          omega (arith, spare.0, w.if-self-ge-CONTROL_END.true)
      | then-self-ge-CONTROL_END-via-else-self-ge-CONTROL_END+then-self-ge-EXPANDED_END w ↦
          omega (arith, spare.1, w.if-self-ge-EXPANDED_END.true)
    ])

pub returns : goal.returns
returns c =
    valid_from c.args.self.now (contained 1 48 c.if-not-contains.ensures.cases c.new.ensures.start c.new.ensures.end) c.in_default.ensures
    c.in_default-wrong_count.ensures (c.if-not-sum_is_right.ensures.0 refl) c.in_default-wrong_stream.ensures
    (c.if-self-ge-CONTROL_END.false, c.if-self-ge-EXPANDED_END.false)
