use Rattle.std.proofs.Common.{◌*◌, ◌<◌, ◌≤◌, refl, ap, ◌∙◌, mul-le-mul_right, rules, tests, arith}
use Rattle.std.proofs.lemmas.Iterator.{YieldsList-from_range, YieldsList-from_map, serves_from_Range}
use Rattle.std.proofs.lemmas.Iterator.Adapters.{at_most_from_yields_List, fits_from_length}
use Rattle.std.proofs.lemmas.Iterator.Consumers.{sum_from_yields_List}
use Rattle.frame_layout.specs.Layout.{frame_size}
use Rattle.frame_layout.proofs.Whole.{mark_of, marks_summed}
use Rattle.frame_layout.proofs.marks.whole_marks.Goals as goal

pub sum-requires-clause-can : goal.sum-requires-clause-can
sum-requires-clause-can c = (
  tt,
  serves_from_Range (λ x q k. search rules)
      (λ x low high.
      let below : x < 8 = omega (arith, high, ap (λ s. s.end) c.map.ensures.source) in
      let le : x * frame_size c.args.slots ≤ 7 * frame_size c.args.slots = mul-le-mul_right (frame_size c.args.slots) (omega (arith, below)) in
      search (rules, below, le)),
)

pub sum-requires-clause-fits : goal.sum-requires-clause-fits
sum-requires-clause-fits c =
    fits_from_length _ _ 8 _ (at_most_from_yields_List (YieldsList-from_range 0 8 8 c.map.ensures.source refl) (omega arith)) c.map.ensures.closure (omega arith) (λ x r q k. search (rules, tests))

pub returns : goal.returns
returns c =
    sum_from_yields_List c.map.result c.sum.result c.sum.ensures.ran
    (YieldsList-from_map _ (mark_of c.args.slots c.args.frames.now) (YieldsList-from_range 0 8 8 c.map.ensures.source refl) c.map.ensures.closure (λ x r q k. search (rules, tests)))
    ∙ marks_summed c.args.slots c.args.frames.now 8
