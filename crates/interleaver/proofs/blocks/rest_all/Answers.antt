use Rattle.std.proofs.Common.{◌≡◌, ℕ, List, [], ◌∷◌, length, replicate, refl, ap, ◌∙◌, ap₂, subst, rules}
use Rattle.std.specs.List.{FoldsTo}
use Rattle.interleaver.proofs.blocks.rest_all.Goals as goal

-- calls that each give the same
all_same :
    {P X : Type 0} (R : P → X → P → Type 0) (p : P) (y : X) → ((x : X) (q : P) → R p x q → (q ≡ p) × (x ≡ y)) →
    (xs : List X) (q : P) → FoldsTo R p xs q → xs ≡ replicate (length xs) y
all_same R p y each [] q f = refl
all_same {X = X} R p y each (x ∷ xs) q f =
    let here = each x f.0 f.1 in
    ap₂ (λ (z : X) (zs : List X). z ∷ zs) here.1 (all_same R p y each xs q (subst (λ j. FoldsTo R j xs q) here.0 f.2))

pub returns : goal.returns
returns g c =
    let rest = g.T.Element.idle in
    all_same _ _ rest (λ x q h. search rules) c.fill_with.new.self _ c.fill_with.ensures.ran.1
    ∙ ap (λ (n : ℕ). replicate n rest) c.fill_with.ensures.len
