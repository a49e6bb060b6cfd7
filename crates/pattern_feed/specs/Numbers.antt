-- The numbers of the packets that are left of eight streams. Assumes nothing.
use Rattle.std.specs.Prelude.{ℕ, List, map}
use Rattle.std.specs.declared.ops.Range.{Range}

-- the number of each stream's next packet
abbrev pub next_of : List (Range ℕ) → List ℕ
next_of left = map (λ numbers. numbers.start) left

-- how many packets each stream has in all
abbrev pub counts_of : List (Range ℕ) → List ℕ
counts_of left = map (λ numbers. numbers.end) left
