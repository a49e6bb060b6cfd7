-- The packets of a stream from one number up to another: how many, the first, and each by its place.
use Rattle.std.proofs.Common.{◌≡◌, ℕ, suc, ◌+◌, ◌-◌, ◌<◌, ◌≤◌, [], ◌∷◌, map, length, get_or, refl, ap, arith}
use Rattle.std.proofs.lemmas.List.FromFn.{length-map-range_with_len, get_or-map-range_with_len}
use Rattle.std.specs.List.{range_with_len}
use Rattle.pattern_feed.specs.Patterns.{pattern, patterns}

pub patterns_length : (r first end : ℕ) → length (patterns r first end) ≡ end - first
unfolding patterns
patterns_length r first end = length-map-range_with_len (pattern r) first (end - first)

pub patterns_none : (r first end : ℕ) → end ≤ first → patterns r first end ≡ []
unfolding patterns
patterns_none r first end past =
    let none : end - first ≡ 0 = omega arith in
    ap (λ (n : ℕ). map (pattern r) (range_with_len first n)) none

pub patterns_next :
    (r first end : ℕ) → first < end → patterns r first end ≡ pattern r first ∷ patterns r (first + 1) end
unfolding patterns
patterns_next r first end some =
    let more : end - first ≡ suc (end - (first + 1)) = omega arith in
    ap (λ (n : ℕ). map (pattern r) (range_with_len first n)) more

pub patterns_at :
    (r first end k : ℕ) → k < end - first → get_or (patterns r first end) k [] ≡ pattern r (first + k)
unfolding patterns
patterns_at r first end k within = get_or-map-range_with_len (pattern r) first (end - first) k (first + k) [] within refl
