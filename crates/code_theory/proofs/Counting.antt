-- The distance of two words, counted place by place.
-- Assumes nothing.
use Rattle.std.proofs.Common.{◌≡◌, ℕ, ◌+◌, cond, eqb, List, [], ◌∷◌, map, sum, sym, refl, ap, ◌∙◌}
use Rattle.std.specs.List.{zip}
use Rattle.std.proofs.lemmas.List.Sums.{sum_by-cons}
use Rattle.code_theory.specs.Codeword.{distance}
use Rattle.code_theory.proofs.Differences.{distance_nil, distance_cons}

nil_right : (a : List ℕ) → distance a [] ≡ 0
unfolding distance
nil_right [] = refl
nil_right (x ∷ a) = refl

-- 1 for two bytes that differ
abbrev pub unlike : ℕ × ℕ → ℕ
unlike p = cond (eqb p.0 p.1) 0 1

pub distance_summed : (a b : List ℕ) → sum (map unlike (zip a b)) ≡ distance a b
distance_summed [] b = sym (distance_nil b)
distance_summed (x ∷ a) [] = sym (nil_right (x ∷ a))
distance_summed (x ∷ a) (y ∷ b) =
    sum_by-cons (λ (n : ℕ). n) (unlike (x, y)) (map unlike (zip a b)) ∙ ap (λ (n : ℕ). cond (eqb x y) 0 1 + n) (distance_summed a b)
    ∙ sym (distance_cons x y a b)
