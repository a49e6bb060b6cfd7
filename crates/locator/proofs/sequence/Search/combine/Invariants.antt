use Rattle.std.proofs.Common.{◌≡◌, ℕ, ◌+◌, ◌<◌, ◌≤◌, length, get_or}
use Rattle.field256.specs.Field.{plus, times}
use Rattle.locator.proofs.sequence.Search.combine.Given as goal

abbrev pub invariant-loop-j : goal.invariant-loop-j
invariant-loop-j l =
    (length l.coefficient-items ≡ 9)
    × ((i : ℕ) → i < l.j → i < l.shift → get_or l.coefficient-items i 0 ≡ times l.a (get_or l.initial.coefficient-items i 0))
    × ((i : ℕ) → l.shift + i < l.j → get_or l.coefficient-items (l.shift + i) 0 ≡ plus (times l.a (get_or l.initial.coefficient-items (l.shift + i) 0)) (times l.c (get_or l.fn.self.helper i 0)))
    × ((i : ℕ) → l.j ≤ i → get_or l.coefficient-items i 0 ≡ get_or l.initial.coefficient-items i 0)
