-- What the interleaver's calls answer, and what they leave in the target. Assumes nothing.
use Rattle.std.specs.Prelude.{◌≡◌, List, length, replicate, Result, MatchResult}
use Rattle.interleaver.specs.Blocks.{size}

-- source and target are blocks
abbrev pub Blocks : {X : Type 0} → List X → List X → Type 0
Blocks source target = (length source ≡ size) × (length target ≡ size)

-- a target of which each element is the rest element
abbrev pub resting : {X : Type 0} → X → List X → List X
resting rest target = replicate (length target) rest

-- admitted exactly if source and target are blocks, and else the target is at rest
abbrev pub Admitted : {X E : Type 0} → X → List X → List X → Result (Unit {0}) E → List X → Type 0
Admitted rest source target answer after =
    MatchResult answer
    (λ _. Blocks source target × (after ≡ target))
    (λ _. (Blocks source target → ⊥) × (after ≡ resting rest target))

-- done exactly if source and target are blocks, and then the target holds what the source becomes; else it is at rest
abbrev pub Moved : {X E : Type 0} → (X → List X → List X) → X → List X → List X → Result (Unit {0}) E → List X → Type 0
Moved becomes rest source target answer after =
    MatchResult answer
    (λ _. Blocks source target × (after ≡ becomes rest source))
    (λ _. (Blocks source target → ⊥) × (after ≡ resting rest target))
