-- A word that no mode has names no unit and no active slot. Assumes nothing.
use Rattle.std.proofs.Common.{◌≡◌, ℕ, zero, suc, refl, arith}
use Rattle.slot_plan.specs.Modes.{unit, active_in_unit, word_of}
use Rattle.slot_plan.specs.declared.mode.Mode.{Mode}
use Rattle.slot_plan.specs.declared.mode.Mode.TheVariants.{Bpsk12, Qpsk12, Qpsk23, Qpsk34, Qpsk56, Qpsk78, Tc8psk23}

pub no_unit : (w : ℕ) → ((m : Mode) → word_of m ≡ w → ⊥) → (unit w ≡ 0) × (active_in_unit w ≡ 0)
no_unit zero h = (refl, refl)
no_unit (suc zero) h = absurd (h Bpsk12 refl)
no_unit (suc (suc zero)) h = absurd (h Qpsk12 refl)
no_unit (suc (suc (suc zero))) h = absurd (h Qpsk23 refl)
no_unit (suc (suc (suc (suc zero)))) h = absurd (h Qpsk34 refl)
no_unit (suc (suc (suc (suc (suc zero))))) h = absurd (h Qpsk56 refl)
no_unit (suc (suc (suc (suc (suc (suc zero)))))) h = absurd (h Qpsk78 refl)
no_unit (suc (suc (suc (suc (suc (suc (suc zero))))))) h = absurd (h Tc8psk23 refl)
no_unit (suc (suc (suc (suc (suc (suc (suc (suc w)))))))) h = (refl, refl)

pub no_mode : (m : Mode) → word_of m ≡ 0 → ⊥
no_mode Bpsk12 e = omega (arith, e)
no_mode Qpsk12 e = omega (arith, e)
no_mode Qpsk23 e = omega (arith, e)
no_mode Qpsk34 e = omega (arith, e)
no_mode Qpsk56 e = omega (arith, e)
no_mode Qpsk78 e = omega (arith, e)
no_mode Tc8psk23 e = omega (arith, e)
