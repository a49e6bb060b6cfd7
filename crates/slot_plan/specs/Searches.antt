-- What a search for the first failing place answers. Assumes nothing.
use Rattle.std.specs.Prelude.{ℕ, ◌<◌, ◌≤◌, Some, None, Option}

-- Of the places 1 to n: the least at which P fails, or none where P holds at each
abbrev pub LeastFailing : (ℕ → Type 0) → ℕ → Option ℕ → Type 0
LeastFailing P n None = (k : ℕ) → 1 ≤ k → k ≤ n → P k
LeastFailing P n (Some r) = (1 ≤ r) × (r ≤ n) × (P r → ⊥) × ((k : ℕ) → 1 ≤ k → k < r → P k)
