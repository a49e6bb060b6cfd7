-- A test that antt computes at every number of k bits. Assumes nothing.
use Rattle.std.proofs.Common.{◌≡◌, ℕ, zero, suc, ◌+◌, ◌*◌, ◌/◌, ◌^◌, Bool, true, false, T, ◌∙◌, subst, ⊎_elim, add-one, arith}
use Rattle.std.proofs.lemmas.Nat.{shr-shr}
use Rattle.std.proofs.lemmas.Bool.{cases_eq}

abbrev pub both : Bool → Bool → Bool
both true b = b
both false b = false

pub both_left : (a b : Bool) → T (both a b) → T a
both_left true b t = tt
both_left false b t = absurd t

pub both_right : (a b : Bool) → T (both a b) → T b
both_right true b t = t
both_right false b t = absurd t

-- the test passes at each number that is `high` above its k lowest bits
abbrev pub every : (ℕ → Bool) → ℕ → ℕ → Bool
every test zero high = test high
every test (suc k) high = both (every test k (2 * high)) (every test k (2 * high + 1))

pub at : (test : ℕ → Bool) (k high : ℕ) → T (every test k high) → (n : ℕ) → n / 2 ^ k ≡ high → T (test n)
at test zero high t n e = let same : high ≡ n = omega (arith, e) in subst (λ (m : ℕ). T (test m)) same t
at test (suc k) high t n e =
    let lower = every test k (2 * high) in
    let upper = every test k (2 * high + 1) in
    let halved : n / 2 ^ k / 2 ≡ high = shr-shr n k 1 ∙ rw add-one e in
    ⊎_elim
    (λ even. at test k (2 * high) (both_left lower upper t) n even)
    (λ odd. at test k (2 * high + 1) (both_right lower upper t) n (omega (arith, odd, halved)))
    (cases_eq (n / 2 ^ k) (2 * high))
