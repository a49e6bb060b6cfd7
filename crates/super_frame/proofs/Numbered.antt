-- A loop over the items of an iterator with their numbers from 0: which item comes, and how many come. Assumes nothing.
use Rattle.std.proofs.Common.{◌≡◌, ℕ, ◌+◌, ◌<◌, List, length, get_or, Option, Some, None, ap, ◌∙◌, arith}
use Rattle.std.proofs.iter.Yields.{nat_range_steps}
use Rattle.std.proofs.lemmas.Iterator.{YieldsList, zips, YieldsList-from_zip, YieldsList-from_range}
use Rattle.std.proofs.lemmas.Iterator.Consumers.{YieldsList-turn, YieldsList-end, YieldsList-from_enumerate}
use Rattle.std.proofs.lemmas.List.{get_or_default}
use Rattle.std.proofs.lemmas.List.FromFn.{length-range_with_len, get_or-range_with_len, length-enumerate_from, get_or-enumerate_from}
use Rattle.std.proofs.lemmas.Slice.Zip.{get_or-zip, length-zip}
use Rattle.std.specs.Iterator.{Yields}
use Rattle.std.specs.Iterator.Adapters.{zip_first, zip_second, enumerate_source, enumerate_count, enumerate_steps}
use Rattle.std.specs.List.{zip, range_with_len, enumerate_from}
use Rattle.std.specs.declared.iter.Zip.{Zip}
use Rattle.std.specs.declared.ops.Range.{Range}
use Rattle.std.specs.declared.iter.Enumerate.{Enumerate}
use Rattle.std.specs.declared.slice.ChunksExact.{ChunksExact}
use Rattle.std.specs.Slice.Iter.{chunks_exact_steps, chunks_exact_rest, chunks_exact_size}
use Rattle.frame_layout.proofs.Chunks.{chunks, chunks_road}

module _ {X : Type 0} (n : ℕ) (xs : List X) (long : length xs ≡ n) where
  all_long : length (zip (range_with_len 0 n) xs) ≡ n
  all_long = length-zip (range_with_len 0 n) xs ∙ omega (arith, length-range_with_len 0 n, long)

  -- the pair at a place
  pair : (k number : ℕ) (x : X) → k < n → (number, x) ≡ get_or (zip (range_with_len 0 n) xs) k (number, x) → (number ≡ k) × ((d : X) → x ≡ get_or xs k d)
  pair k number x below e =
      let inside : k < length xs = omega (arith, below, long) in
      let is : ◌≡◌ {A = ℕ × X} (number, x) (get_or (range_with_len 0 n) k number, get_or xs k x) =
      e ∙ get_or-zip (range_with_len 0 n) xs k (number, x) (omega (arith, below, length-range_with_len 0 n)) inside in
      (ap (λ p. p.0) is ∙ (get_or-range_with_len 0 n k number below ∙ omega arith), λ d. ap (λ p. p.1) is ∙ get_or_default xs k x d inside)

  module _
      {S B : Type 0} {others : S → Option B → S → Type 0} {v : B → X} (s t u : Zip (Range ℕ) S) (r : Option (ℕ × B))
      (first : zip_first s ≡ record { start = 0; end = n }) (second : YieldsList others v (zip_second s) xs) (ys : List (ℕ × B))
      (y : Yields (zips nat_range_steps others) s ys t) (h : zips nat_range_steps others t r u)
    where
      road : YieldsList (zips nat_range_steps others) (λ p. (p.0, v p.1)) s (zip (range_with_len 0 n) xs)
      road = YieldsList-from_zip (YieldsList-from_range 0 n n first (omega arith)) second

      pub numbered_turn : (p : ℕ × B) → r ≡ Some p → (length ys < n) × (p.0 ≡ length ys) × ((d : X) → v p.1 ≡ get_or xs (length ys) d)
      numbered_turn p e =
          let k = YieldsList-turn road ys t y r u p e h in
          let below : length ys < n = omega (arith, k.0, all_long) in
          let at = pair (length ys) p.0 (v p.1) below k.1 in
          (below, at.0, at.1)

      pub numbered_end : r ≡ None → length ys ≡ n
      numbered_end e = (YieldsList-end road ys t y r u e h).1 ∙ all_long

-- the same of a loop that counts by `enumerate`
module _
    {X S B : Type 0} {others : S → Option B → S → Type 0} {v : B → X} (xs : List X) (s t u : Enumerate S) (r : Option (ℕ × B))
    (source : YieldsList others v (enumerate_source s) xs) (fresh : enumerate_count s ≡ 0) (ys : List (ℕ × B))
    (y : Yields (enumerate_steps others) s ys t) (h : enumerate_steps others t r u)
  where
    counted : YieldsList (enumerate_steps others) (λ p. (p.0, v p.1)) s (enumerate_from 0 xs)
    counted = YieldsList-from_enumerate source fresh

    pub counted_turn : (p : ℕ × B) → r ≡ Some p → (length ys < length xs) × (p.0 ≡ length ys) × ((d : X) → v p.1 ≡ get_or xs (length ys) d)
    counted_turn p e =
        let k = YieldsList-turn counted ys t y r u p e h in
        let below : length ys < length xs = omega (arith, k.0, length-enumerate_from 0 xs) in
        let is : ◌≡◌ {A = ℕ × X} (p.0, v p.1) (0 + length ys, get_or xs (length ys) (v p.1)) = k.1 ∙ get_or-enumerate_from 0 xs (length ys) (p.0, v p.1) below in
        (below, ap (λ q. q.0) is ∙ omega arith, λ d. ap (λ q. q.1) is ∙ get_or_default xs (length ys) (v p.1) d below)

    pub counted_end : r ≡ None → length ys ≡ length xs
    counted_end e = (YieldsList-end counted ys t y r u e h).1 ∙ length-enumerate_from 0 xs

-- where the items of a numbered loop are the chunks of a slice: the clauses of `zip`, `chunks_exact` and `into_iter` say which
pub chunks_zipped :
    {X S : Type 0} (n : ℕ) (xs : List X) (s z : Zip S (ChunksExact X)) (c : ChunksExact X) → 0 < n → s ≡ z → zip_second z ≡ c → chunks_exact_size c ≡ n →
    chunks_exact_rest c ≡ xs → YieldsList chunks_exact_steps (λ y. y.now) (zip_second s) (chunks n xs)
chunks_zipped n xs s z c some gives second size rest =
    chunks_road n xs some (ap (λ t. chunks_exact_size (zip_second t)) gives ∙ (ap chunks_exact_size second ∙ size))
    (ap (λ t. chunks_exact_rest (zip_second t)) gives ∙ (ap chunks_exact_rest second ∙ rest))

pub chunks_counted :
    {X : Type 0} (n : ℕ) (xs : List X) (s z : Enumerate (ChunksExact X)) (c : ChunksExact X) → 0 < n → s ≡ z → enumerate_source z ≡ c →
    chunks_exact_size c ≡ n → chunks_exact_rest c ≡ xs → YieldsList chunks_exact_steps (λ y. y.now) (enumerate_source s) (chunks n xs)
chunks_counted n xs s z c some gives source size rest =
    chunks_road n xs some (ap (λ t. chunks_exact_size (enumerate_source t)) gives ∙ (ap chunks_exact_size source ∙ size))
    (ap (λ t. chunks_exact_rest (enumerate_source t)) gives ∙ (ap chunks_exact_rest source ∙ rest))
