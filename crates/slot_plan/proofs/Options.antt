-- What two clauses on one option say, by its cases. Assumes nothing.
use Rattle.std.proofs.Common.{Option, Some, None, MatchOption}

pub both : {T N M X : Type 0} {S U : T → Type 0} (o : Option T) → MatchOption o N S → MatchOption o M U → (N → M → X) → ((x : T) → S x → U x → X) → X
both None n m none some = none n m
both (Some x) s u none some = some x s u
