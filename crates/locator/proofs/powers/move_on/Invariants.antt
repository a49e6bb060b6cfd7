use Rattle.std.proofs.Common.{◌≡◌, ℕ, ◌*◌, ◌<◌, ◌≤◌, length, get_or}
use Rattle.field256.specs.Field.{times, power}
use Rattle.locator.proofs.powers.move_on.Given as goal

abbrev pub invariant-loop-j : goal.invariant-loop-j
invariant-loop-j l =
    (length l.p ≡ 9)
    × ((i : ℕ) → i < l.j → get_or l.p i 0 ≡ times (get_or l.initial.p i 0) (power 2 (16 * i)))
    × ((i : ℕ) → l.j ≤ i → get_or l.p i 0 ≡ get_or l.initial.p i 0)
