-- The rule of a table, proved at all of its entries by one test that antt computes.
-- Assumes nothing.
use Rattle.std.proofs.Common.{◌≡◌, ℕ, zero, suc, ◌+◌, ◌<◌, Bool, true, T, eqb, List, [], ◌∷◌, length, get_or, sym, ap, ◌∙◌, le_of_suc-le-suc, not-suc-le-zero, add-zero, add-suc, suc-add, zero-add, eqb→eq}
use Rattle.field256.proofs.Below.{both, both_left, both_right}

-- each entry is what f gives at its place, counted from i
unfoldable pub lists : (ℕ → ℕ) → ℕ → List ℕ → Bool
lists f i [] = true
lists f i (y ∷ ys) = both (eqb y (f i)) (lists f (suc i) ys)

listed_from : (f : ℕ → ℕ) (ys : List ℕ) (i : ℕ) → T (lists f i ys) → (k : ℕ) → k < length ys → get_or ys k 0 ≡ f (k + i)
unfolding lists
listed_from f [] i t k h = absurd (not-suc-le-zero h)
listed_from f (y ∷ ys) i t zero h =
    eqb→eq y (f i) (both_left (eqb y (f i)) (lists f (suc i) ys) t) ∙ ap f (sym (zero-add i))
listed_from f (y ∷ ys) i t (suc k) h =
    listed_from f ys (suc i) (both_right (eqb y (f i)) (lists f (suc i) ys) t) k (le_of_suc-le-suc h)
    ∙ ap f (add-suc k i ∙ sym (suc-add k i))

pub listed : (f : ℕ → ℕ) (ys : List ℕ) → T (lists f 0 ys) → (k : ℕ) → k < length ys → get_or ys k 0 ≡ f k
listed f ys t k h = listed_from f ys 0 t k h ∙ ap f (add-zero k)
