-- The search for the places at which a polynomial is zero.
-- Assumes nothing.
use Rattle.std.proofs.Common.{Bor, Iter, Option, Some, None, ◌≡◌, ℕ, zero, suc, ◌+◌, ◌-◌, ◌<◌, ◌≤◌, ◌≢◌, ◌⊎◌, List, length, get_or, set, take, replicate, reverse, ap, sym, refl, ◌∙◌, inl, inr, arith, length-set, length-take-le, get_or-set_other, get_or-set_same}
use Rattle.std.specs.List.{zip, range_with_len}
use Rattle.std.proofs.lemmas.List.{get_or-reverse, get_or-take, get_or_default, length-reverse}
use Rattle.std.proofs.lemmas.List.FromFn.{length-range_with_len, get_or-range_with_len}
use Rattle.std.proofs.lemmas.Slice.Zip.{length-zip, get_or-zip}
use Rattle.std.proofs.lemmas.Iterator.{YieldsList, YieldsList-from_range, YieldsList-from_zip, zips}
use Rattle.std.proofs.lemmas.Iterator.Adapters.{YieldsList-from_rev_slice}
use Rattle.std.proofs.lemmas.Iterator.Consumers.{YieldsList-turn, YieldsList-end}
use Rattle.std.proofs.iter.Yields.{nat_range_steps}
use Rattle.std.specs.Iterator.{Yields}
use Rattle.std.specs.Iterator.Adapters.{zip_first, zip_second, rev_source, rev_steps}
use Rattle.std.specs.Slice.Iter.{iter_rest, iter_steps_back}
use Rattle.std.specs.declared.iter.Zip.{Zip}
use Rattle.std.specs.declared.iter.Rev.{Rev}
use Rattle.std.specs.declared.ops.Range.{Range}
use Rattle.field256.proofs.Laws.{power_fits, two_power_distinct}
use Rattle.code_theory.specs.Sequences.{polynomial, place}
use Rattle.locator.specs.Roots.{OfDegree, Listed, Roots}
use Rattle.locator.proofs.Dividing.{few_roots}

-- the places below k are searched; what stands in the list behind those found is not settled yet at one place
pub record Sought (p : List ℕ) (degree n k count : ℕ) (list : List ℕ) : Type 0 where
  pub room : count ≤ degree
  pub size : length list ≡ 16
  pub within : (m : ℕ) → m < count → get_or list m 0 < k
  pub late : (m : ℕ) → m < count → n ≤ get_or list m 0 + 255
  pub rising : (i j : ℕ) → i < j → j < count → get_or list i 0 < get_or list j 0
  pub only : (m : ℕ) → m < count → polynomial 9 p (place n (get_or list m 0)) ≡ 0
  pub spare : (m : ℕ) → count < m → get_or list m 0 ≡ 0
  pub all : n ≤ 255 → (i : ℕ) → i < k → polynomial 9 p (place n i) ≡ 0 → Listed count list i

pub zeros_at : (n i : ℕ) → ◌≡◌ {A = ℕ} (get_or (replicate n 0) i 0) 0
zeros_at zero i = refl
zeros_at (suc n) zero = refl
zeros_at (suc n) (suc i) = zeros_at n i

pub sought_none : (p : List ℕ) (degree n k : ℕ) (list : List ℕ) → (n ≤ 255 → k ≡ 0) → length list ≡ 16 → ((m : ℕ) → get_or list m 0 ≡ 0)
    → Sought p degree n k 0 list
sought_none p degree n k list first size zeros =
    record {
      room = omega arith;
      size = size;
      within = λ m l. absurd (omega arith);
      late = λ m l. absurd (omega arith);
      rising = λ i j l b. absurd (omega arith);
      only = λ m l. absurd (omega arith);
      spare = λ m l. zeros m;
      all = λ short i l. absurd (omega (arith, first short));
    }

here_or : (k i : ℕ) → i < suc k → (i ≡ k) ⊎ (i < k)
here_or k i h = search arith

module _ (p : List ℕ) (degree n k count : ℕ) (list : List ℕ) (h : Sought p degree n k count list) (shape : OfDegree 9 degree p)
    (inside : k < n) (far : n ≤ k + 255) (value : ℕ) (is : value ≡ polynomial 9 p (place n k)) where
  full : count < length list
  full = omega (arith, h.room, h.size, shape.room)

  same : (i : ℕ) → i < count → get_or (set list count k) i 0 ≡ get_or list i 0
  same i l = get_or-set_other list count i k 0 (omega arith)

  new : get_or (set list count k) count 0 ≡ k
  new = get_or-set_same list count k 0 full

  size_put : length (set list count k) ≡ 16
  size_put = length-set list count k ∙ h.size

  within_put : (i : ℕ) → i < count → get_or (set list count k) i 0 < suc k
  within_put i l = rw (same i l) (omega (arith, h.within i l))

  pub sought_same : value ≢ 0 → Sought p degree n (suc k) count (set list count k)
  sought_same other =
      record {
        room = h.room;
        size = size_put;
        within = within_put;
        late = λ i l. rw (same i l) (h.late i l);
        rising = λ i j l b. rw (same i (omega arith), same j b) (h.rising i j l b);
        only = λ i l. rw (same i l) (h.only i l);
        spare = λ i l. get_or-set_other list count i k 0 (omega arith) ∙ h.spare i l;
        all = λ short i l z. elim (here_or k i l) [
          | inl e ↦ absurd (other (is ∙ rw e at z))
          | inr b ↦ let (j, u, v) = h.all short i b z in (j, u, same j u ∙ v)
        ];
      }

  module _ (root : value ≡ 0) where
    within_more : (i : ℕ) → i < suc count → get_or (set list count k) i 0 < suc k
    within_more i l = elim (here_or count i l) [ inl c ↦ rw (c, new) (omega arith) | inr b ↦ within_put i b ]

    late_more : (i : ℕ) → i < suc count → n ≤ get_or (set list count k) i 0 + 255
    late_more i l = elim (here_or count i l) [ inl c ↦ rw (c, new) far | inr b ↦ rw (same i b) (h.late i b) ]

    rising_more : (i j : ℕ) → i < j → j < suc count → get_or (set list count k) i 0 < get_or (set list count k) j 0
    rising_more i j l b =
        elim (here_or count j b) [
          | inl c ↦ let u : i < count = omega arith in rw (c, new, same i u) (h.within i u)
          | inr a ↦ let u : i < count = omega arith in rw (same i u, same j a) (h.rising i j l a)
        ]

    only_more : (i : ℕ) → i < suc count → polynomial 9 p (place n (get_or (set list count k) i 0)) ≡ 0
    only_more i l = elim (here_or count i l) [ inl c ↦ rw (c, new) (sym is ∙ root) | inr b ↦ rw (same i b) (h.only i b) ]

    apart : (i j : ℕ) → i < j → j < suc count → place n (get_or (set list count k) i 0) ≢ place n (get_or (set list count k) j 0)
    apart i j l b e =
        let a : ℕ = get_or (set list count k) i 0 in
        let c : ℕ = get_or (set list count k) j 0 in
        let alike : n - 1 - a ≡ n - 1 - c
        = two_power_distinct (n - 1 - a) (n - 1 - c) e (omega (arith, within_more i (omega arith), late_more i (omega arith)))
        (omega (arith, within_more j b, late_more j b)) in
        omega (arith, rising_more i j l b, within_more j b)

    pub sought_found : Sought p degree n (suc k) (suc count) (set list count k)
    sought_found =
        record {
          room =
              few_roots 8 degree p shape (suc count) (λ i. place n (get_or (set list count k) i 0))
              (λ i l. power_fits 2 (n - 1 - get_or (set list count k) i 0)) apart only_more;
          size = size_put;
          within = within_more;
          late = late_more;
          rising = rising_more;
          only = only_more;
          spare = λ i l. get_or-set_other list count i k 0 (omega arith) ∙ h.spare i (omega arith);
          all = λ short i l y. elim (here_or k i l) [
            | inl c ↦ (count, omega arith, new ∙ sym c)
            | inr b ↦ let (j, u, v) = h.all short i b y in (j, omega arith, same j u ∙ v)
          ];
        }

-- the search has come to the end, and the place behind those found is cleared
pub searched : (p : List ℕ) (degree n k count : ℕ) (list : List ℕ) → k ≡ n → degree < 9
    → Sought p degree n k count list → Roots p degree n count (set list count 0)
searched p degree n k count list e small h =
    let full : count < length list = omega (arith, h.room, h.size) in
    let same : (i : ℕ) → i < count → get_or (set list count 0) i 0 ≡ get_or list i 0
    = λ i l. get_or-set_other list count i 0 0 (omega arith) in
    record {
      size = length-set list count 0 ∙ h.size;
      room = h.room;
      order = record {
        within = λ m l. rw (same m l) (omega (arith, h.within m l));
        rising = λ i j l b. rw (same i (omega arith), same j b) (h.rising i j l b);
      };
      only = λ m l. rw (same m l) (h.only m l);
      all = λ short i l z. let (j, u, v) = h.all short i (omega arith) z in (j, u, same j u ∙ v);
      spare = λ m l. elim (here_or m count (omega arith)) [
        | inl c ↦ rw (← c) (get_or-set_same list count 0 0 full)
        | inr b ↦ get_or-set_other list count m 0 0 (omega arith) ∙ h.spare m b
      ];
    }

-- a walk over the last places, with the values of the powers that they stand for
module _ (n reach : ℕ) (values : List ℕ) (few : reach ≤ n) (room : reach ≤ length values) (yielded : List (ℕ × Bor ℕ)) (s t u : Zip (Range ℕ) (Rev (Iter ℕ)))
    (r : Option (ℕ × Bor ℕ)) (first : zip_first s ≡ record { start = n - reach; end = n }) (second : iter_rest (rev_source (zip_second s)) ≡ take reach values)
    (so_far : Yields (zips nat_range_steps (rev_steps iter_steps_back)) s yielded t) (step : zips nat_range_steps (rev_steps iter_steps_back) t r u) where
  walked : YieldsList {B = ℕ × ℕ} (zips nat_range_steps (rev_steps iter_steps_back)) (λ p. (p.0, p.1.now)) s (zip (range_with_len (n - reach) reach) (reverse (take reach values)))
  walked = YieldsList-from_zip (YieldsList-from_range (n - reach) n reach first (omega arith)) (YieldsList-from_rev_slice (take reach values) second)

  long : length (range_with_len (n - reach) reach) ≡ reach
  long = length-range_with_len (n - reach) reach

  too : length (take reach values) ≡ reach
  too = length-take-le reach values room

  pub place_here : (p : ℕ × Bor ℕ) → r ≡ Some p
      → (length yielded < reach) × (p.0 ≡ n - reach + length yielded) × (p.1.now ≡ get_or values (n - 1 - p.0) 0)
  place_here p e =
      let m : ℕ = length yielded in
      let k : ℕ = p.0 in
      let v : ℕ = p.1.now in
      let ks : List ℕ = range_with_len (n - reach) reach in
      let vs : List ℕ = take reach values in
      let h = YieldsList-turn walked yielded t so_far r u p e step in
      let below : m < reach = omega (arith, h.0, long, too, length-zip ks (reverse vs), length-reverse vs) in
      let pair : ◌≡◌ {A = ℕ × ℕ} (k, v) (get_or ks m k, get_or (reverse vs) m v)
      = h.1 ∙ get_or-zip ks (reverse vs) m (k, v) (omega (arith, long)) (omega (arith, too, length-reverse vs)) in
      let place : k ≡ n - reach + m = ap (λ (p : ℕ × ℕ). p.0) pair ∙ get_or-range_with_len (n - reach) reach m k below in
      let from_end : length vs - 1 - m ≡ n - 1 - k = omega (arith, too) in (
        below,
        place,
        ap (λ (p : ℕ × ℕ). p.1) pair ∙ get_or_default (reverse vs) m v 0 (omega (arith, too, length-reverse vs)) ∙ get_or-reverse vs m 0 (omega (arith, too))
            ∙ ap (λ (i : ℕ). get_or vs i 0) from_end ∙ get_or-take reach values (n - 1 - k) 0 (omega arith),
      )

  pub places_end : r ≡ None → n - reach + length yielded ≡ n
  places_end e =
      omega (
        arith,
        (YieldsList-end walked yielded t so_far r u e step).1,
        long,
        too,
        length-zip (range_with_len (n - reach) reach) (reverse (take reach values)),
        length-reverse (take reach values),
      )
