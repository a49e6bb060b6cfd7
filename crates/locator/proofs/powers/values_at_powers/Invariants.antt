use Rattle.std.proofs.Common.{◌≡◌, ℕ, ◌*◌, ◌<◌, ◌≤◌, length, get_or}
use Rattle.field256.specs.Field.{times, power}
use Rattle.code_theory.specs.Sequences.{polynomial}
use Rattle.locator.proofs.powers.values_at_powers.Given as goal

abbrev pub invariant-loop-block : goal.invariant-loop-block
invariant-loop-block l =
    (length l.values ≡ 256) × (length l.moved ≡ 9)
    × ((j : ℕ) → j < 9 → get_or l.moved j 0 ≡ times (get_or l.p j 0) (power (power 2 (16 * l.block)) j))
    × ((i : ℕ) → i < 16 * l.block → get_or l.values i 0 ≡ polynomial 9 l.p (power 2 i))
    × ((i : ℕ) → 16 * l.block ≤ i → get_or l.values i 0 ≡ 0)
