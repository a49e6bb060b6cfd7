-- Powers of x and logarithms as the two tables have them: the rule of each is one test that antt computes.
-- Assumes nothing.
use Rattle.std.proofs.Common.{◌≡◌, ℕ, zero, suc, ◌+◌, ◌<◌, ◌≤◌, Bool, true, cond, T, eqb, ltb, List, [], ◌∷◌, length, get_or, sym, refl, ap, ◌∙◌, le_of_suc-le-suc, not-suc-le-zero, add-zero, add-suc, suc-add, zero-add, arith, eqb→eq, ltb→lt}
use lib.Dec.{eqb_refl}
use Rattle.field256.specs.Field.{plus, reduced, twice, bitwise_product, times, power}
use Rattle.field256.proofs.Below.{every, at, both, both_in, both_left, both_right}
use Rattle.field256.proofs.Listed.{lists, listed}
use Rattle.field256.proofs.Ring.{zero_times, times_zero}
use Rattle.field256.proofs.Powers.{power_zero, two_power_product}

-- the list holds zeros alone
unfoldable pub zeros : List ℕ → Bool
zeros [] = true
zeros (y ∷ ys) = both (eqb y 0) (zeros ys)

-- the list holds p, x·p, x^2·p and so on, n of them, and then zeros
unfoldable pub doubles : ℕ → ℕ → List ℕ → Bool
doubles zero p ys = zeros ys
doubles (suc n) p [] = true
doubles (suc n) p (y ∷ ys) = both (eqb y p) (doubles n (times 2 p) ys)

from : (n : ℕ) (ys : List ℕ) (m : ℕ) → T (doubles n (power 2 m) ys) → (k : ℕ) → k < n → k < length ys → get_or ys k 0 ≡ power 2 (k + m)
unfolding doubles power
from zero ys m t k l h = absurd (not-suc-le-zero l)
from (suc n) [] m t k l h = absurd (not-suc-le-zero h)
from (suc n) (y ∷ ys) m t zero l h =
    eqb→eq y (power 2 m) (both_left (eqb y (power 2 m)) (doubles n (power 2 (suc m)) ys) t) ∙ ap (power 2) (sym (zero-add m))
from (suc n) (y ∷ ys) m t (suc k) l h =
    from n ys (suc m) (both_right (eqb y (power 2 m)) (doubles n (power 2 (suc m)) ys) t) k (le_of_suc-le-suc l) (le_of_suc-le-suc h)
    ∙ ap (power 2) (add-suc k m ∙ sym (suc-add k m))

zero_at : (ys : List ℕ) → T (zeros ys) → (k : ℕ) → get_or ys k 0 ≡ 0
unfolding zeros
zero_at [] t k = refl
zero_at (y ∷ ys) t zero = eqb→eq y 0 (both_left (eqb y 0) (zeros ys) t)
zero_at (y ∷ ys) t (suc k) = zero_at ys (both_right (eqb y 0) (zeros ys) t) k

pub power_table : (n : ℕ) (ys : List ℕ) → T (doubles n 1 ys) → (k : ℕ) → k < n → k < length ys → get_or ys k 0 ≡ power 2 k
power_table n ys t k l h =
    from n ys 0 (rw (power_zero 2) t) k l h ∙ ap (power 2) (add-zero k)

pub past_powers : (n p : ℕ) (ys : List ℕ) → T (doubles n p ys) → (k : ℕ) → n ≤ k → get_or ys k 0 ≡ 0
unfolding doubles
past_powers zero p ys t k l = zero_at ys t k
past_powers (suc n) p [] t k l = refl
past_powers (suc n) p (y ∷ ys) t zero l = absurd (not-suc-le-zero l)
past_powers (suc n) p (y ∷ ys) t (suc k) l =
    past_powers n (times 2 p) ys (both_right (eqb y p) (doubles n (times 2 p) ys) t) k (le_of_suc-le-suc l)

-- ---- logarithms

-- the first n of p, x·p, x^2·p and so on
unfoldable pub powers_from : ℕ → ℕ → List ℕ
powers_from zero p = []
powers_from (suc n) p = p ∷ powers_from n (times 2 p)

doubles_powers : (n p : ℕ) → T (doubles n p (powers_from n p))
unfolding doubles powers_from zeros
doubles_powers zero p = tt
doubles_powers (suc n) p =
    both_in (eqb p p) (doubles n (times 2 p) (powers_from n (times 2 p))) (eqb_refl p) (doubles_powers n (times 2 p))

powers_length : (n p : ℕ) → length (powers_from n p) ≡ n
unfolding powers_from
powers_length zero p = refl
powers_length (suc n) p = ap suc (powers_length n (times 2 p))

-- where a number first stands in a list, or the list's length
unfoldable pub position : List ℕ → ℕ → ℕ
position [] a = 0
position (p ∷ ps) a = cond (eqb p a) 0 (suc (position ps a))

-- the logarithm of an element, and past in zero's place
unfoldable pub logarithm : ℕ → ℕ → ℕ
logarithm past zero = past
logarithm past (suc a) = position (powers_from 255 1) (suc a)

-- the element after a has a place among these powers
reached : List ℕ → ℕ → Bool
reached powers a = both (ltb (position powers (suc a)) 255) (eqb (get_or powers (position powers (suc a)) 0) (suc a))

all_reached : T (every (reached (powers_from 255 1)) 255)
unfolding reached position powers_from times bitwise_product twice reduced plus
all_reached = tt

at_logarithm : (past a : ℕ) → a < 255 → (logarithm past (suc a) < 255) × (power 2 (logarithm past (suc a)) ≡ suc a)
unfolding logarithm reached
at_logarithm past a h =
    let n = logarithm past (suc a) in
    let P = powers_from 255 1 in
    let here = at (reached P) 255 all_reached a h in
    let below = ltb→lt n 255 (both_left (ltb n 255) (eqb (get_or P n 0) (suc a)) here) in
    let inside : n < length P = rw (powers_length 255 1) below in
    (below, sym (power_table 255 P (doubles_powers 255 1) n below inside) ∙ eqb→eq (get_or P n 0) (suc a) (both_right (ltb n 255) (eqb (get_or P n 0) (suc a)) here))

pub power_logarithm : (past a : ℕ) → 0 < a → a < 256 → (logarithm past a < 255) × (power 2 (logarithm past a) ≡ a)
power_logarithm past zero p h = absurd (omega arith)
power_logarithm past (suc a) p h = at_logarithm past a (omega arith)

pub zero_logarithm : (past a : ℕ) → a ≡ 0 → logarithm past a ≡ past
unfolding logarithm
zero_logarithm past zero e = refl
zero_logarithm past (suc a) e = absurd (omega arith)

-- a product by logarithms, zero's place past the sums of the others
pub logarithm_product : (a b m n r : ℕ) → a < 256 → b < 256
    → (0 < a → (m < 255) × (power 2 m ≡ a)) → (a ≡ 0 → m ≡ 510) → (0 < b → (n < 255) × (power 2 n ≡ b)) → (b ≡ 0 → n ≡ 510)
    → (m + n < 510 → r ≡ power 2 (m + n)) → (510 ≤ m + n → r ≡ 0) → r ≡ times a b
logarithm_product zero b m n r ha hb some none some-b none-b power-is zero_is =
    zero_is (omega (arith, none refl)) ∙ sym (zero_times b)
logarithm_product (suc a) zero m n r ha hb some none some-b none-b power-is zero_is =
    zero_is (omega (arith, none-b refl)) ∙ sym (times_zero (suc a))
logarithm_product (suc a) (suc b) m n r ha hb some none some-b none-b power-is zero_is =
    let p = some (omega arith) in
    let q = some-b (omega arith) in
    power-is (omega (arith, p.0, q.0)) ∙ two_power_product (suc a) (suc b) m n p.1 q.1

pub logarithm_table : (past : ℕ) (ys : List ℕ) → T (lists (logarithm past) 0 ys) → (k : ℕ) → k < length ys → get_or ys k 0 ≡ logarithm past k
logarithm_table past ys t k h = listed (logarithm past) ys t k h
