-- How many slots of a line are active, by whole units and what is left. Assumes nothing.
use Rattle.std.proofs.Common.{◌≡◌, ℕ, zero, suc, ◌+◌, ◌*◌, ◌/◌, ◌%◌, min, cond, ltb, refl, ap, ◌∙◌, arith}
use Rattle.std.proofs.lemmas.Bool.Decides.{nat_tests}
use Rattle.slot_plan.specs.Modes.{unit, active_in_unit, word_of}
use Rattle.slot_plan.specs.Views.{active_below}
use Rattle.slot_plan.specs.declared.mode.Mode.{Mode}
use Rattle.slot_plan.specs.declared.mode.Mode.TheVariants.{Bpsk12, Qpsk12, Qpsk23, Qpsk34, Qpsk56, Qpsk78, Tc8psk23}

none : (m : Mode) → ◌≡◌ {A = ℕ} 0 (0 / unit (word_of m) * active_in_unit (word_of m) + min (0 % unit (word_of m)) (active_in_unit (word_of m)))
none Bpsk12 = refl
none Qpsk12 = refl
none Qpsk23 = refl
none Qpsk34 = refl
none Qpsk56 = refl
none Qpsk78 = refl
none Tc8psk23 = refl

-- one slot more, at each mode
step : (m : Mode) (n : ℕ) →
    n / unit (word_of m) * active_in_unit (word_of m) + min (n % unit (word_of m)) (active_in_unit (word_of m))
    + cond (ltb (n % unit (word_of m)) (active_in_unit (word_of m))) 1 0
    ≡ suc n / unit (word_of m) * active_in_unit (word_of m) + min (suc n % unit (word_of m)) (active_in_unit (word_of m))
step Bpsk12 n = grind (arith, nat_tests)
step Qpsk12 n = grind (arith, nat_tests)
step Qpsk23 n = grind (arith, nat_tests)
step Qpsk34 n = grind (arith, nat_tests)
step Qpsk56 n = grind (arith, nat_tests)
step Qpsk78 n = grind (arith, nat_tests)
step Tc8psk23 n = grind (arith, nat_tests)

-- whole units have their active slots, and what is left has its first ones
pub active_by_units : (m : Mode) (n : ℕ) →
    active_below (word_of m) n ≡ n / unit (word_of m) * active_in_unit (word_of m) + min (n % unit (word_of m)) (active_in_unit (word_of m))
unfolding active_below
active_by_units m zero = none m
active_by_units m (suc n) = ap (λ (k : ℕ). k + cond (ltb (n % unit (word_of m)) (active_in_unit (word_of m))) 1 0) (active_by_units m n) ∙ step m n
