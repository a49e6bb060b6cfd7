use Rattle.std.proofs.Common.{◌∙◌, rules, tests, arith}
use Rattle.std.proofs.lemmas.Iterator.{YieldsList-from_zip, YieldsList-from_slice, YieldsList-from_map}
use Rattle.std.proofs.lemmas.Iterator.Adapters.{at_most_from_yields_List, fits_from_length}
use Rattle.std.proofs.lemmas.Iterator.Consumers.{sum_from_yields_List}
use Rattle.std.proofs.lemmas.Slice.Zip.{length-zip}
use Rattle.code_theory.proofs.Counting.{unlike, distance_summed}
use Rattle.code_theory.proofs.differing.Goals as goal

pub sum-requires-clause-fits : goal.sum-requires-clause-fits
sum-requires-clause-fits c =
    let a = c.args.a.now in
    let b = c.args.b.now in
    fits_from_length _ _ 9223372036854775808 _ (at_most_from_yields_List (YieldsList-from_zip (YieldsList-from_slice a cc) (YieldsList-from_slice b cc)) (omega (arith, length-zip a b)))
    c.map.ensures.closure (omega arith) (λ x r q k. search (rules, tests))

pub returns : goal.returns
returns c =
    let a = c.args.a.now in
    let b = c.args.b.now in
    sum_from_yields_List c.map.result c.sum.result c.sum.ensures.ran
    (YieldsList-from_map _ unlike (YieldsList-from_zip (YieldsList-from_slice a cc) (YieldsList-from_slice b cc)) c.map.ensures.closure (λ x r q k. search (rules, tests)))
    ∙ distance_summed a b
