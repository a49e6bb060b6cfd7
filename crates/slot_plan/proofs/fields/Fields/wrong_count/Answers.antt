use Rattle.std.proofs.Common.{rules, tests}
use Rattle.slot_plan.specs.Rules.{CountRule}
use Rattle.slot_plan.proofs.Numbers.{least_from_find}
use Rattle.slot_plan.proofs.fields.Fields.wrong_count.Goals as goal

pub returns : goal.returns
returns c =
    least_from_find _ (CountRule c.args.self.now) 4 _ c.new.ensures.start c.new.ensures.end c.new.ensures.exhausted c.find.ensures.ran
    (λ x q k. search (rules, tests))
    (λ x q k. search (rules, tests))
