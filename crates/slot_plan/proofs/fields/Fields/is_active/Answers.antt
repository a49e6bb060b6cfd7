use Rattle.std.proofs.Common.{sym, ◌∙◌, zero-le, rules, tests}
use Rattle.std.proofs.lemmas.Bool.{le-ltb}
use Rattle.slot_plan.specs.Layout.{active, mode_word}
use Rattle.slot_plan.proofs.Options.{both}
use Rattle.slot_plan.proofs.Units.{no_unit}
use Rattle.slot_plan.proofs.fields.Fields.is_active.Goals as goal

pub returns : goal.returns
unfolding active
returns c =
    both c.locate.result c.locate.ensures c.is_some_and.ensures
    (λ unknown no. let none = (no_unit (mode_word c.args.self.now c.args.slot) unknown).1 in no ∙ rw none (sym (le-ltb _ 0 zero-le)))
    (λ m known post. search (rules, tests))
