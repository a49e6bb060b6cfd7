-- What a byte is once a mask has made one of its bits 0 or 1: one test over every byte and place. Assumes nothing.
use Rattle.std.proofs.Common.{◌≡◌, ℕ, zero, suc, ◌-◌, ◌/◌, ◌%◌, ◌^◌, ◌<◌, Bool, true, false, ◌&&◌, eqb, sym, refl, subst, ⊎_elim, arith}
use lib.Bits.{bit_and, bit_or}
use mir.Val.{bool_byte}
use Rattle.std.proofs.lemmas.Bool.{and_parts, eqb-true, cases_eq}

-- the test passes at each number below n
unfoldable pub every : ℕ → (ℕ → Bool) → Bool
every zero p = true
every (suc n) p = p n && every n p

pub every_at : (n : ℕ) (p : ℕ → Bool) → every n p ≡ true → (k : ℕ) → k < n → p k ≡ true
unfolding every
every_at zero p e k h = absurd (omega (arith, h))
every_at (suc n) p e k h =
    ⊎_elim (λ (s : k ≡ n). subst (λ (m : ℕ). p m ≡ true) (sym s) (and_parts (p n) (every n p) e).0)
    (λ ne. every_at n p (and_parts (p n) (every n p) e).1 k (omega (arith, h, ne)))
    (cases_eq k n)

-- bit i of a byte, the highest first
abbrev bit_of : ℕ → ℕ → ℕ
bit_of x i = x / 2 ^ (7 - i) % 2

abbrev pub masked : Bool → ℕ → ℕ → ℕ
masked true x at = bit_or x (128 / 2 ^ at)
masked false x at = bit_and x (255 - 128 / 2 ^ at)

sets : Bool → ℕ → ℕ → Bool
sets one x at = eqb (bit_of (masked one x at) at) (bool_byte one) && every at (λ i. eqb (bit_of (masked one x at) i) (bit_of x i))

all_set : (one : Bool) → every 256 (λ x. every 8 (sets one x)) ≡ true
unfolding every sets
all_set true = refl
all_set false = refl

set_at : (one : Bool) (x at : ℕ) → x < 256 → at < 8 → sets one x at ≡ true
set_at one x at hx ha = every_at 8 (sets one x) (every_at 256 (λ x. every 8 (sets one x)) (all_set one) x hx) at ha

pub masked_here : (one : Bool) (x at : ℕ) → x < 256 → at < 8 → masked one x at / 2 ^ (7 - at) % 2 ≡ bool_byte one
unfolding sets
masked_here one x at hx ha = eqb-true _ _ (and_parts _ _ (set_at one x at hx ha)).0

pub masked_before :
    (one : Bool) (x at : ℕ) → x < 256 → at < 8 → (i : ℕ) → i < at → masked one x at / 2 ^ (7 - i) % 2 ≡ x / 2 ^ (7 - i) % 2
unfolding sets
masked_before one x at hx ha i hi =
    eqb-true _ _ (every_at at (λ i. eqb (bit_of (masked one x at) i) (bit_of x i)) (and_parts _ _ (set_at one x at hx ha)).1 i hi)
