use Rattle.std.proofs.Common.{◌≡◌, ℕ, ◌+◌, ◌-◌, ◌≤◌, List, string_bytes}
use Rattle.plan_listing.specs.Listing.{Tells, texts_to}
use Rattle.plan_listing.proofs.listing.texts_to.Given as goal

abbrev pub invariant-loop-number : goal.invariant-loop-number
invariant-loop-number g l =
    (l.number ≤ l.fn.last + 1)
    × ((told : ℕ → List ℕ) → Tells (goal.F-post g l.text) told l.fn.last → string_bytes l.all ≡ texts_to told (l.number - 1))
