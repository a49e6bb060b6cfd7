use Rattle.std.proofs.Common.{◌≡◌, ◌-◌, drop}
use Rattle.slot_plan.specs.Layout.{words, counts, word_among, place_among}
use Rattle.slot_plan.proofs.fields.Fields.locate.Given as goal

-- what is left of the lines has the slot at what is left of its place
abbrev pub invariant-loop-line : goal.invariant-loop-line
invariant-loop-line l =
    (word_among (drop l.line-index (words l.self)) (drop l.line-index (counts l.self)) l.place
    ≡ word_among (words l.self) (counts l.self) (l.slot - 1))
    × (place_among (drop l.line-index (counts l.self)) l.place ≡ place_among (counts l.self) (l.slot - 1))
