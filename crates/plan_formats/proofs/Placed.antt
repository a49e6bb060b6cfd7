-- Places of numbers of one width, one after the other. Assumes nothing.
use Rattle.std.proofs.Common.{◌≡◌, ℕ, ◌+◌, ◌*◌, ◌^◌, ◌<◌, ◌≤◌, List, length, take, sym, ap, ◌∙◌, subst, inl, inr, mul-le-mul_left, mul-suc, add-one, arith, pow_mono}
use Rattle.std.proofs.lemmas.List.{length-take-le}
use Rattle.std.proofs.lemmas.Bool.{cases_lt}
use Rattle.plan_formats.specs.Body.{numbers, Run}
use Rattle.plan_formats.proofs.Joins.{width_numbers}

-- where i numbers end
pub numbers_place :
    {x from y to : ℕ} (w : ℕ) (xs : List ℕ) (i : ℕ) → Run x from (numbers w (take i xs)) y to → i ≤ length xs → to ≡ from + w * i
numbers_place {x} {from} {y} {to} w xs i run h =
    run.place ∙ ap (λ (n : ℕ). from + n) (width_numbers w (take i xs) ∙ ap (λ (n : ℕ). w * n) (length-take-le i xs h))

pub place_more : (start width i place : ℕ) → place ≡ start + width * i → place + width ≡ start + width * (i + 1)
place_more start width i place e =
    let one : width * (i + 1) ≡ width * i + width = rw (add-one i) (mul-suc width i) in
    omega (arith, e, one)

pub place_within :
    (start width i n place end : ℕ) → place ≡ start + width * i → i < n → start + width * n ≤ end → place + width ≤ end
place_within start width i n place end e h w =
    let more = place_more start width i place e in
    let all : width * (i + 1) ≤ width * n = mul-le-mul_left width (omega (arith, h)) in
    omega (arith, more, all, w)

pub fits_more : (v w k : ℕ) → v < 2 ^ w → w ≤ k → v < 2 ^ k
fits_more v w k h l = let p : 2 ^ w ≤ 2 ^ k = pow_mono l in omega (arith, h, p)

-- a number of k bits fits a width of at most k, if it does where the width is less
pub fits_narrow : (v w k : ℕ) → w ≤ k → v < 2 ^ k → (w < k → v < 2 ^ w) → v < 2 ^ w
fits_narrow v w k l h less = elim (cases_lt w k) [ inl below ↦ less below | inr same ↦ let e : w ≡ k = omega (arith, l, same) in subst (λ (n : ℕ). v < 2 ^ n) (sym e) h ]
