-- A slice in chunks of one size: which items come. Assumes nothing.
use Rattle.std.proofs.Common.{◌≡◌, ℕ, zero, suc, ◌+◌, ◌*◌, ◌/◌, ◌<◌, ◌≤◌, List, [], ◌∷◌, ◌++◌, length, get_or, take, drop, sym, refl, ap, ◌∙◌, subst, add-zero, mul-le-mul_right, arith}
use Rattle.std.proofs.Math.Nat.{add-div_left}
use Rattle.std.proofs.lemmas.Nat.{div_below, div-mul-add}
use Rattle.std.proofs.lemmas.List.{take_at, drop_at, drop-drop, length-append, length-take-le, length-drop, get_or-take, get_or-drop}
use Rattle.std.specs.Simd.{first_chunks}
use Rattle.std.proofs.lemmas.Iterator.{YieldsList}
use Rattle.std.proofs.lemmas.Iterator.Splits.{YieldsList-from_shown_while}
use Rattle.std.specs.Slice.Iter.{chunks_exact_steps, chunks_exact_rest, chunks_exact_size}

pub length_first_chunks : {X : Type 0} (n k : ℕ) (xs : List X) → length (first_chunks n k xs) ≡ k
length_first_chunks n zero xs = refl
length_first_chunks n (suc k) xs = ap suc (length_first_chunks n k (drop n xs))

-- the chunk at a place
pub get_or_first_chunks : {X : Type 0} (n k : ℕ) (xs : List X) (i : ℕ) (d : List X) → i < k → get_or (first_chunks n k xs) i d ≡ take n (drop (n * i) xs)
get_or_first_chunks n zero xs i d h = absurd (omega arith)
get_or_first_chunks n (suc k) xs zero d h = let e : n * zero ≡ 0 = omega arith in rw e refl
get_or_first_chunks n (suc k) xs (suc i) d h =
    let e : n + n * i ≡ n * suc i = omega arith in
    get_or_first_chunks n k (drop n xs) i d (omega arith) ∙ ap (take n) (drop-drop (n * i) n xs ∙ ap (λ (j : ℕ). drop j xs) e)

-- a list in chunks of one size
abbrev pub chunks : {X : Type 0} → ℕ → List X → List (List X)
chunks n xs = first_chunks n (length xs / n) xs

module _ {X : Type 0} (n count : ℕ) (xs : List X) (some : 0 < n) (full : length xs ≡ count * n) where
  quotient : length xs / n ≡ count
  quotient = ap (λ (k : ℕ). k / n) (full ∙ sym (add-zero (count * n))) ∙ div-mul-add count n 0 some

  -- how many chunks there are
  pub chunks_long : length (chunks n xs) ≡ count
  chunks_long = length_first_chunks n (length xs / n) xs ∙ quotient

  module _ (i : ℕ) (chunk : List X) (below : i < count) (is : chunk ≡ get_or (chunks n xs) i []) where
    -- which part a chunk is, how long it is, and which items it has
    pub chunk_is : chunk ≡ take n (drop (n * i) xs)
    chunk_is = is ∙ get_or_first_chunks n (length xs / n) xs i [] (omega (arith, quotient))

    pub chunk_long : length chunk ≡ n
    chunk_long =
        let le : i + 1 ≤ count = omega arith in
        ap length chunk_is ∙ length-take-le n (drop (n * i) xs) (omega (arith, length-drop (n * i) xs, full, mul-le-mul_right n le))

    pub chunk_item : (rest : X) (c : ℕ) → c < n → get_or chunk c rest ≡ get_or xs (n * i + c) rest
    chunk_item rest c h = ap (λ ys. get_or ys c rest) chunk_is ∙ (get_or-take n (drop (n * i) xs) c rest h ∙ get_or-drop (n * i) xs c rest)

-- one chunk more
one_more : {X : Type 0} (n : ℕ) (x r : List X) → 0 < n → length x ≡ n → chunks n (x ++ r) ≡ x ∷ chunks n r
one_more n x r some size =
    let count : length (x ++ r) / n ≡ suc (length r / n) =
    ap (λ (k : ℕ). k / n) (length-append x r ∙ ap (λ (k : ℕ). k + length r) size) ∙ (add-div_left (length r) some ∙ omega arith) in
    ap (λ (k : ℕ). first_chunks n k (x ++ r)) count
    ∙ (ap (λ w. w ∷ first_chunks n (length r / n) (drop n (x ++ r))) (take_at x r n size)
    ∙ ap (λ w. x ∷ first_chunks n (length r / n) w) (drop_at x r n size))

-- what `chunks_exact` gives
pub chunks_road : {X : Type 0} {s : _} (n : ℕ) (xs : List X) → 0 < n → chunks_exact_size s ≡ n → chunks_exact_rest s ≡ xs → YieldsList chunks_exact_steps (λ y. y.now) s (chunks n xs)
chunks_road {s = s} n xs some size rest =
    subst (λ ys. YieldsList chunks_exact_steps (λ y. y.now) s (chunks n ys)) rest
    (YieldsList-from_shown_while chunks_exact_steps (λ y. y.now) (λ t. chunks n (chunks_exact_rest t))
    (λ t. chunks_exact_size t ≡ n)
    (λ t u h k.
    let few : length (chunks_exact_rest t) < 1 * n = omega (arith, k.1.0, h) in
    length_first_chunks n (length (chunks_exact_rest t) / n) (chunks_exact_rest t) ∙ omega (arith, div_below (length (chunks_exact_rest t)) n 1 some few))
    (λ t x u h k. (
      k.0 ∙ h,
      ap (λ ys. chunks n ys) k.1.0 ∙ one_more n x.now (chunks_exact_rest u) some (k.1.1 ∙ h),
    ))
    s size)
