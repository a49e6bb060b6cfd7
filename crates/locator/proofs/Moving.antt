-- A polynomial with a power of 02h times x in the place of x.
-- Assumes nothing.
use Rattle.std.proofs.Common.{◌≡◌, ℕ, ◌+◌, ◌-◌, ◌*◌, ◌<◌, ◌≤◌, min, ◌⊎◌, List, length, get_or, sym, ap, ◌∙◌, inl, inr, zero-mul, arith}
use Rattle.field256.specs.Field.{times, power}
use Rattle.field256.proofs.Laws.{times_assoc, times_one, power_zero, power_add, power_mul, power_times}
use Rattle.code_theory.specs.Codeword.{Bytes}
use Rattle.code_theory.specs.Sequences.{polynomial}
use Rattle.code_theory.proofs.Sums.{sum_same}
use Rattle.parity.specs.Remainder.{AtRoots}

-- m has the coefficients of p at 2^e x
abbrev pub Moved : List ℕ → ℕ → List ℕ → Type 0
Moved p e m = (j : ℕ) → j < 9 → get_or m j 0 ≡ times (get_or p j 0) (power (power 2 e) j)

pub moved_none : (p : List ℕ) → Bytes p → Moved p 0 p
moved_none p f j h =
    sym (rw (← power_mul 2 0 j, zero-mul j, power_zero 2) (times_one (get_or p j 0) (f j)))

pub moved_more : (p m r : List ℕ) (e : ℕ) → Moved p e m → ((j : ℕ) → j < 9 → get_or r j 0 ≡ times (get_or m j 0) (power 2 (16 * j))) → Moved p (e + 16) r
moved_more p m r e h step j l =
    step j l ∙ rw (h j l, power_add 2 e 16, power_times (power 2 e) (power 2 16) j, power_mul 2 16 j)
    (times_assoc (get_or p j 0) (power (power 2 e) j) (power (power 2 16) j))

pub moved_value : (p m : List ℕ) (e x : ℕ) → Moved p e m → polynomial 9 m x ≡ polynomial 9 p (times (power 2 e) x)
unfolding polynomial
moved_value p m e x h =
    sum_same 9 _ _ (λ j l. rw (h j l, power_times (power 2 e) x j) (times_assoc (get_or p j 0) (power (power 2 e) j) (power x j)))

-- the values at the roots, of what was moved, are those further on
pub block_value : (p m s : List ℕ) (e : ℕ) → length m ≡ 9 → Moved p e m → AtRoots m s
    → (j : ℕ) → j < 16 → get_or s j 0 ≡ polynomial 9 p (power 2 (e + j))
block_value p m s e size h at j l =
    let nine : min (length m) 16 ≡ 9 = omega arith in
    at.at j l ∙ ap (λ (n : ℕ). polynomial n m (power 2 j)) nine ∙ moved_value p m e (power 2 j) h
    ∙ ap (polynomial 9 p) (sym (power_add 2 e j))

-- one block more
pub values_more : (p m s values after : List ℕ) (e : ℕ) → length m ≡ 9 → Moved p e m → AtRoots m s
    → ((i : ℕ) → i < e → get_or values i 0 ≡ polynomial 9 p (power 2 i))
    → ((j : ℕ) → j < 16 → get_or after (e + j) 0 ≡ get_or s j 0) → ((i : ℕ) → i < e → get_or after i 0 ≡ get_or values i 0)
    → (i : ℕ) → i < e + 16 → get_or after i 0 ≡ polynomial 9 p (power 2 i)
values_more p m s values after e size h at so_far block before i l =
    elim (below_or i e) [
      | inl b ↦ before i b ∙ so_far i b
      | inr b ↦
          let same : i ≡ e + (i - e) = omega arith in
          let small : i - e < 16 = omega arith in
          ap (λ (k : ℕ). get_or after k 0) same ∙ block (i - e) small ∙ block_value p m s e size h at (i - e) small
          ∙ ap (λ (k : ℕ). polynomial 9 p (power 2 k)) (sym same)
    ]
  where
    below_or : (i e : ℕ) → (i < e) ⊎ (e ≤ i)
    below_or i e = search arith
