use Rattle.std.proofs.Common.{◌≡◌, ℕ, ◌+◌, ◌<◌, ◌≤◌, ◌∷◌, length, get_or}
use Rattle.field256.specs.Field.{plus, times}
use Rattle.locator.proofs.values.widen.Given as goal

abbrev pub invariant-loop-coefficient : goal.invariant-loop-coefficient
invariant-loop-coefficient l = record {
  size : length l.coefficient-items ≡ l.degree + 2;
  below : l.below ≡ get_or (0 ∷ l.fn.p) l.coefficient-index 0;
  made : (j : ℕ) → j < l.coefficient-index → get_or l.coefficient-items j 0 ≡ plus (get_or (0 ∷ l.fn.p) j 0) (times l.x (get_or l.fn.p j 0));
  left : (j : ℕ) → l.coefficient-index ≤ j → j < l.degree + 2 → get_or l.coefficient-items j 0 ≡ get_or l.fn.p j 0;
}
