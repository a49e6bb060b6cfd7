-- An element of a list after a write to a part of it. Assumes nothing.
use Rattle.std.proofs.Common.{◌≡◌, ℕ, ◌+◌, ◌-◌, ◌<◌, ◌≤◌, List, ◌++◌, length, get_or, take, drop, ap, ◌∙◌, arith}
use borrow.Rule.Slice.PartMut.{put_mid, post_of}
use Rattle.std.proofs.lemmas.List.{length-take-le, get_or_append_left, get_or-append_right, get_or-take, get_or-drop}

module _ {X : Type 0} (a k : ℕ) (xs ys : List X) (d : X) (fits : a + k ≤ length xs) (long : length ys ≡ k) where
  pub put_below : (i : ℕ) → i < a → get_or (put_mid a k xs ys) i d ≡ get_or xs i d
  put_below i h =
      let front : length (take a xs) ≡ a = length-take-le a xs (omega arith) in
      get_or_append_left (take a xs) (ys ++ post_of a k xs) d i (omega arith) ∙ get_or-take a xs i d h

  pub put_in : (i : ℕ) → i < k → get_or (put_mid a k xs ys) (a + i) d ≡ get_or ys i d
  put_in i h =
      let front : length (take a xs) ≡ a = length-take-le a xs (omega arith) in
      let at : a + i - a ≡ i = omega arith in
      get_or-append_right (take a xs) (ys ++ post_of a k xs) a (a + i) d front (omega arith)
      ∙ (rw at (get_or_append_left ys (post_of a k xs) d i (omega arith)))

  pub put_above : (i : ℕ) → a + k ≤ i → get_or (put_mid a k xs ys) i d ≡ get_or xs i d
  put_above i h =
      let front : length (take a xs) ≡ a = length-take-le a xs (omega arith) in
      let at : a + (k + (i - a - k)) ≡ i = omega arith in
      get_or-append_right (take a xs) (ys ++ post_of a k xs) a i d front (omega arith)
      ∙ (get_or-append_right ys (post_of a k xs) k (i - a) d long (omega arith)
      ∙ (get_or-drop k (drop a xs) (i - a - k) d ∙ (get_or-drop a xs (k + (i - a - k)) d ∙ ap (λ (j : ℕ). get_or xs j d) at)))
