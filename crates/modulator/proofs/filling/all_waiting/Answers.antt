use Rattle.std.proofs.Common.{◌≡◌, ℕ, length, map, sum, refl, ◌∙◌, arith, rules}
use Rattle.std.proofs.lemmas.Iterator.{YieldsList-from_range, YieldsList-from_map}
use Rattle.std.proofs.lemmas.Iterator.Adapters.{at_most_from_yields_List, fits_from_length}
use Rattle.std.proofs.lemmas.Iterator.Consumers.{sum_from_yields_List}
use Rattle.std.specs.List.{range_with_len}
use Rattle.feed.specs.Packets.{WellFormed}
use Rattle.modulator.specs.Fills.{over_streams}
use Rattle.modulator.proofs.filling.all_waiting.Goals as goal

pub sum-requires-clause-fits : goal.sum-requires-clause-fits
sum-requires-clause-fits g c =
    fits_from_length _ _ 8 _ (at_most_from_yields_List (YieldsList-from_range 0 8 8 c.map.ensures.source refl) (omega arith)) c.map.ensures.closure (omega arith)
    (λ x r q k.
    let formed : WellFormed (g.F.Feed.lists c.args.feed.now) = search rules in
    let count : r ≡ length (g.F.Feed.lists c.args.feed.now x) = search rules in
    (search rules, omega (arith, count, formed.short x)))

-- the sum of a number for each of the eight streams
eight : (f : ℕ → ℕ) → sum (map f (range_with_len 0 8)) ≡ over_streams f 8
unfolding over_streams
eight f = omega arith

pub returns : goal.returns
returns g c =
    let waiting = λ (q : ℕ). length (g.F.Feed.lists c.args.feed.now q) in
    sum_from_yields_List c.map.result c.sum.result c.sum.ensures.ran
    (YieldsList-from_map _ waiting (YieldsList-from_range 0 8 8 c.map.ensures.source refl) c.map.ensures.closure (λ x r q k. search rules))
    ∙ eight waiting
