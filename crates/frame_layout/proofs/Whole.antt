-- Frame marks by the frames, and how many of the frames have their own marks. Assumes nothing.
use Rattle.std.proofs.Common.{◌≡◌, ℕ, zero, suc, ◌+◌, ◌-◌, ◌*◌, ◌/◌, ◌%◌, ◌<◌, ◌≤◌, cond, ◌&&◌, eqb, List, get_or, map, sum, take, drop, sym, refl, ap, ◌∙◌, add-one, mul-le-mul_right, arith}
use Rattle.std.proofs.lemmas.List.{get_or-take, get_or-drop}
use Rattle.std.proofs.lemmas.List.FromFn.{sum_by-map-range_with_len_more}
use Rattle.std.specs.List.{range_with_len}
use Rattle.frame_layout.specs.Layout.{frame_size, super_size, W1, own}
use Rattle.frame_layout.specs.Marks.{stands, marked, whole, whole_up_to}

-- a byte of a part is the byte of the whole
part_byte : (xs : List ℕ) (at n i j : ℕ) → i < n → at + i ≡ j → get_or (take n (drop at xs)) i 0 ≡ get_or xs j 0
part_byte xs at n i j h e = get_or-take n (drop at xs) i 0 h ∙ (get_or-drop at xs i 0 ∙ ap (λ (k : ℕ). get_or xs k 0) e)

stands_part : (xs : List ℕ) (at n place i word : ℕ) → i + 2 ≤ n → at + i ≡ place → stands (take n (drop at xs)) i word ≡ stands xs place word
unfolding stands
stands_part xs at n place i word h e =
    ap (λ (x : ℕ). eqb x (word / 256) && eqb (get_or (take n (drop at xs)) (i + 1) 0) (word % 256)) (part_byte xs at n i place (omega arith) e)
    ∙ ap (λ (x : ℕ). eqb (get_or xs place 0) (word / 256) && eqb x (word % 256)) (part_byte xs at n (i + 1) (place + 1) (omega arith) (omega arith))

-- and so is a frame mark
marked_part : (xs : List ℕ) (at n i place word : ℕ) → i + 12 ≤ n → at + i ≡ place → marked (take n (drop at xs)) i word ≡ marked xs place word
unfolding marked
marked_part xs at n i place word h e =
    ap (λ b. b && stands (take n (drop at xs)) (i + 10) word) (stands_part xs at n place i W1 (omega arith) e)
    ∙ ap (λ b. stands xs place W1 && b) (stands_part xs at n (place + 10) (i + 10) word (omega arith) (omega arith))

-- the frames of a super-frame, counted in the bytes from their place on
pub whole_from : (slots : ℕ) (stream : List ℕ) (place n : ℕ) → n ≤ 8 → whole_up_to slots (take (super_size slots) (drop place stream)) 0 n ≡ whole_up_to slots stream place n
unfolding whole_up_to
whole_from slots stream place zero h = refl
whole_from slots stream place (suc n) h =
    let le : n ≤ 7 = omega arith in
    let F = frame_size slots in
    let before = suc n - 1 in
    let same : before * F ≡ n * F = ap (λ (k : ℕ). k * F) (omega arith) in
    let here : marked (take (super_size slots) (drop place stream)) (0 + before * F) (own (suc n)) ≡ marked stream (place + before * F) (own (suc n)) =
    marked_part stream place (super_size slots) (0 + before * F) (place + before * F) (own (suc n)) (omega (arith, mul-le-mul_right F le, same)) (omega arith) in
    ap (λ (k : ℕ). k + cond (marked (take (super_size slots) (drop place stream)) (0 + before * F) (own (suc n))) 1 0) (whole_from slots stream place n (omega arith))
    ∙ ap (λ b. whole_up_to slots stream place n + cond b 1 0) here

-- 1 for a frame, counted from 0, that has its own mark
abbrev pub mark_of : ℕ → List ℕ → ℕ → ℕ
mark_of slots frames n = cond (marked frames (n * frame_size slots) (own (n + 1))) 1 0

-- the frame after n others
after_frames : (size n : ℕ) → n * size ≡ 0 + (suc n - 1) * size
after_frames size n = let same : n * size ≡ (suc n - 1) * size = ap (λ (k : ℕ). k * size) (omega arith) in omega (arith, same)

module _ (slots : ℕ) (frames : List ℕ) where
  -- the same frame, counted from 1
  mark_there : (n : ℕ) → mark_of slots frames n ≡ cond (whole slots frames 0 (suc n)) 1 0
  mark_there n =
      ap (λ (k : ℕ). cond (marked frames k (own (n + 1))) 1 0) (after_frames (frame_size slots) n)
      ∙ ap (λ (k : ℕ). cond (marked frames (0 + (suc n - 1) * frame_size slots) (own k)) 1 0) (add-one n)

  -- how many of the first n frames have theirs
  pub marks_summed : (n : ℕ) → sum (map (mark_of slots frames) (range_with_len 0 n)) ≡ whole_up_to slots frames 0 n
  unfolding whole_up_to
  marks_summed zero = refl
  marks_summed (suc n) =
      ap (λ (k : ℕ). sum (map (mark_of slots frames) (range_with_len 0 k))) (sym (add-one n))
      ∙ (sum_by-map-range_with_len_more (λ (x : ℕ). x) (mark_of slots frames) 0 n n (omega arith)
      ∙ (ap (λ (k : ℕ). k + mark_of slots frames n) (marks_summed n)
      ∙ ap (λ (k : ℕ). whole_up_to slots frames 0 n + k) (mark_there n)))
