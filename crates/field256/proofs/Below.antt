-- A rule of each number below n, proved by one test that antt computes.
-- Assumes nothing.
use Rattle.std.proofs.Common.{◌≡◌, ℕ, zero, suc, ◌<◌, Bool, true, false, T, ◌⊎◌, sym, subst, inl, inr, not-suc-le-zero, arith}

abbrev pub both : Bool → Bool → Bool
both true b = b
both false b = false

pub both_left : (a b : Bool) → T (both a b) → T a
both_left true b t = tt
both_left false b t = t

pub both_right : (a b : Bool) → T (both a b) → T b
both_right true b t = t
both_right false b t = absurd t

pub both_in : (a b : Bool) → T a → T b → T (both a b)
both_in true b t u = u
both_in false b t u = t

-- the test f passes at each number below n
abbrev pub every : (ℕ → Bool) → ℕ → Bool
every f zero = true
every f (suc n) = both (f n) (every f n)

last_or_below : (n k : ℕ) → k < suc n → (k ≡ n) ⊎ (k < n)
last_or_below n k h = search arith

pub at : (f : ℕ → Bool) (n : ℕ) → T (every f n) → (k : ℕ) → k < n → T (f k)
at f zero t k h = absurd (not-suc-le-zero h)
at f (suc n) t k h =
    elim (last_or_below n k h) [
      | inl e ↦ subst (λ (m : ℕ). T (f m)) (sym e) (both_left (f n) (every f n) t)
      | inr l ↦ at f n (both_right (f n) (every f n) t) k l
    ]
