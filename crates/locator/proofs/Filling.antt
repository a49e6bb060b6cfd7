-- Sixteen bytes of which the first are written, and zeros follow.
-- Assumes nothing.
use Rattle.std.proofs.Common.{◌≡◌, ℕ, ◌+◌, ◌-◌, ◌<◌, ◌≤◌, ◌⊎◌, List, ◌++◌, length, get_or, drop, replicate, ◌∙◌, inl, inr, arith, length-append, length-drop, get_or-drop}
use Rattle.std.proofs.lemmas.List.{get_or_append_left, get_or-append_right}
use Rattle.code_theory.specs.Codeword.{Bytes}
use Rattle.locator.proofs.Rooting.{zeros_at}

below_or : (i n : ℕ) → (i < n) ⊎ (n ≤ i)
below_or i n = search arith

module _ (items : List ℕ) (n : ℕ) (size : length items ≡ n) where
  pub filled_length : n ≤ 16 → length (items ++ drop n (replicate 16 0)) ≡ 16
  filled_length room = let zeros : List ℕ = replicate 16 0 in omega (arith, length-append items (drop n zeros), length-drop n zeros)

  pub filled_front : (i : ℕ) → i < n → get_or (items ++ drop n (replicate 16 0)) i 0 ≡ get_or items i 0
  filled_front i l = get_or_append_left items (drop n (replicate 16 0)) 0 i (omega arith)

  pub filled_behind : (i : ℕ) → n ≤ i → get_or (items ++ drop n (replicate 16 0)) i 0 ≡ 0
  filled_behind i l =
      get_or-append_right items (drop n (replicate 16 0)) n i 0 size l ∙ get_or-drop n (replicate 16 0) (i - n) 0 ∙ zeros_at 16 (n + (i - n))

  pub filled_bytes : Bytes items → Bytes (items ++ drop n (replicate 16 0))
  filled_bytes f i = elim (below_or i n) [ inl l ↦ rw (filled_front i l) (f i) | inr l ↦ rw (filled_behind i l) (omega arith) ]
