-- Searches over the numbers of a range, said of the numbers. Assumes nothing.
use Rattle.std.proofs.Common.{◌≡◌, ℕ, zero, suc, ◌+◌, ◌-◌, ◌<◌, ◌≤◌, Bool, true, false, List, [], ◌∷◌, length, get_or, Option, Some, None, MatchOption, Decides, refl, sym, ap, subst, ◌∙◌, zero-le, arith}
use denote.Param.Members.{Mut}
use denote.Ref.{Bor}
use Rattle.std.specs.Bool.{MatchBool}
use Rattle.std.specs.Fn.{CalledAt}
use Rattle.std.specs.Iterator.{YieldsThen}
use Rattle.std.specs.List.{range_with_len, FoldsTo, AllWithin, HoldsAt}
use Rattle.std.specs.Ordering.{is_le, nat_cmp}
use Rattle.std.proofs.lemmas.Map.Keys.{le_from_is_le}
use Rattle.std.specs.Range.{range_inclusive_start, range_inclusive_end, range_inclusive_exhausted, range_inclusive_len}
use Rattle.std.specs.declared.ops.RangeInclusive.{RangeInclusive}
use Rattle.std.specs.declared.ops.Range.{Range}
use Rattle.std.proofs.iter.runs.Sources.{nat_range_inclusive_steps, nat_range_steps_back}
use Rattle.std.proofs.lemmas.Iterator.{YieldsList, first_from_find}
use Rattle.std.proofs.lemmas.Iterator.Consumers.{YieldsList-from_shown}
use Rattle.std.proofs.lemmas.List.FromFn.{length-range_with_len, get_or-range_with_len}
use Rattle.slot_plan.specs.Searches.{LeastFailing}

-- a range `a..=b` contains a number
pub contained : {low high x : ℕ} (a b : ℕ) → (is_le (nat_cmp low x) ≡ true) × (is_le (nat_cmp x high) ≡ true) → low ≡ a → high ≡ b → (a ≤ x) × (x ≤ b)
contained {low} {high} {x} a b h start end = (omega (arith, le_from_is_le low x h.0, start), omega (arith, le_from_is_le x high h.1, end))

-- how many numbers a range `a..=b` has left, and these
abbrev left : RangeInclusive ℕ → ℕ
left s = range_inclusive_len (λ x y. y - x) (range_inclusive_start s) (range_inclusive_end s) (range_inclusive_exhausted s)

abbrev shown : RangeInclusive ℕ → List ℕ
shown s = range_with_len (range_inclusive_start s) (left s)

spent : (a b c n : ℕ) (gone : Bool) → n ≡ range_inclusive_len (λ x y. y - x) a b gone → (gone ≡ false → a ≡ c) → range_with_len c n ≡ range_with_len a n
spent a b c n true e h = rw e refl
spent a b c n false e h = rw (h refl) refl

step : (s : RangeInclusive ℕ) (x : ℕ) (t : RangeInclusive ℕ) → nat_range_inclusive_steps s (Some x) t → shown s ≡ x ∷ shown t
step s x t h =
    let one_less : left s ≡ suc (left t) = omega (arith, h.1.1) in
    let next = spent (range_inclusive_start t) (range_inclusive_end t) (range_inclusive_start s + 1) (left t) (range_inclusive_exhausted t) refl h.1.2 in
    ap (range_with_len (range_inclusive_start s)) one_less ∙ ap (λ (n : ℕ). n ∷ range_with_len (range_inclusive_start s + 1) (left t)) (sym h.1.0) ∙ ap (λ (ns : List ℕ). x ∷ ns) next

pub YieldsList-from_inclusive : {s : RangeInclusive ℕ} (a b n : ℕ) → range_inclusive_start s ≡ a → range_inclusive_end s ≡ b → range_inclusive_exhausted s ≡ false → b + 1 ≡ a + n → YieldsList nat_range_inclusive_steps (λ x. x) s (range_with_len a n)
YieldsList-from_inclusive {s} a b n from to fresh sized =
    let many : left s ≡ n = ap (range_inclusive_len (λ x y. y - x) (range_inclusive_start s) (range_inclusive_end s)) fresh ∙ omega arith in
    let same : shown s ≡ range_with_len a n = ap (λ (m : ℕ). range_with_len (range_inclusive_start s) m) many ∙ ap (λ (m : ℕ). range_with_len m n) from in
    subst (YieldsList nat_range_inclusive_steps (λ x. x) s) same
    (YieldsList-from_shown nat_range_inclusive_steps (λ x. x) shown (λ t u h. length-range_with_len _ _ ∙ h.1.0) step s)

module _ (P : ℕ → Type 0) (a n : ℕ) where
  abbrev all : List ℕ
  all = range_with_len a n

  -- what holds of the first i numbers
  first : (i : ℕ) → i ≤ n → AllWithin P all 0 i → (k : ℕ) → a ≤ k → k < a + i → P k
  first i h holds k low high =
      let at : get_or all (k - a) 0 ≡ k = get_or-range_with_len a n (k - a) 0 (omega arith) ∙ omega arith in
      subst P at (holds (k - a) 0 zero-le (omega arith))

  whole : AllWithin P all 0 (length all) → (k : ℕ) → a ≤ k → k < a + n → P k
  whole holds = first n (omega arith) (subst (AllWithin P all 0) (length-range_with_len a n) holds)

least_failing : (P : ℕ → Type 0) (n : ℕ) (r : Option ℕ)
    → MatchOption r (AllWithin P (range_with_len 1 n) 0 (length (range_with_len 1 n)))
    (λ x. (P x → ⊥) × (i : ℕ) × (i < length (range_with_len 1 n)) × HoldsAt (λ y. y ≡ x) (range_with_len 1 n) i × AllWithin P (range_with_len 1 n) 0 i)
    → LeastFailing P n r
least_failing P n None h = λ k low high. whole P 1 n h k low (omega arith)
least_failing P n (Some x) h =
    let i = h.1 in
    let inside : i < n = omega (arith, h.2, length-range_with_len 1 n) in
    let at : x ≡ 1 + i = sym (h.3 0) ∙ get_or-range_with_len 1 n i 0 inside in
    (omega arith, omega arith, h.0, λ k low high. first P 1 n i (omega arith) h.4 k low (omega arith))

-- `find` over a range `1..=n`, of a number that fails
pub least_from_find : {F : Type 0} {g : Mut F (Bor ℕ × Unit {0}) Bool} {s : RangeInclusive ℕ} (u : RangeInclusive ℕ) {f : F} (P : ℕ → Type 0) (n : ℕ) (r : Option ℕ)
    → range_inclusive_start s ≡ 1 → range_inclusive_end s ≡ n → range_inclusive_exhausted s ≡ false
    → (xs : List ℕ) × (j : F) × YieldsThen nat_range_inclusive_steps s xs r u × FoldsTo (λ p x q. CalledAt g p x false q) f xs j × MatchOption r (Unit {0}) (λ x. (h : F) × CalledAt g j x true h)
    → ((x : ℕ) (q : F) → CalledAt g f x true q → P x → ⊥) → ((x : ℕ) (q : F) → CalledAt g f x false q → (q ≡ f) × P x)
    → LeastFailing P n r
least_from_find u P n r start end fresh ran fails passes =
    least_failing P n r (first_from_find _ _ r (λ x. P x → ⊥) P ran (YieldsList-from_inclusive 1 n n start end fresh (omega arith)) fails passes)

-- `all` over a range
pub decides_all : (P : ℕ → Type 0) (a n b : ℕ) (r : Bool) → a + n ≡ b
    → MatchBool r (AllWithin P (range_with_len a n) 0 (length (range_with_len a n))) ((k : ℕ) × (k < length (range_with_len a n)) × HoldsAt (λ x. P x → ⊥) (range_with_len a n) k)
    → Decides r ((k : ℕ) → a ≤ k → k < b → P k)
decides_all P a n b true e h = (λ _ k low high. whole P a n h k low (omega arith), λ _. refl)
decides_all P a n b false e h =
    let inside : h.0 < n = omega (arith, h.1, length-range_with_len a n) in
    (λ no. absurd (cc), λ each. absurd (h.2 0 (subst P (sym (get_or-range_with_len a n h.0 0 inside)) (each (a + h.0) (omega arith) (omega arith)))))

-- `any` over a range `a..=b`
pub decides_any : (P : ℕ → Type 0) (a n b : ℕ) (r : Bool) → b + 1 ≡ a + n
    → MatchBool r ((k : ℕ) × (k < length (range_with_len a n)) × HoldsAt P (range_with_len a n) k) (AllWithin (λ x. P x → ⊥) (range_with_len a n) 0 (length (range_with_len a n)))
    → Decides r ((k : ℕ) × (a ≤ k) × (k ≤ b) × P k)
decides_any P a n b true e h =
    let inside : h.0 < n = omega (arith, h.1, length-range_with_len a n) in
    (λ _. (a + h.0, omega arith, omega arith, subst P (get_or-range_with_len a n h.0 0 inside) (h.2 0)), λ _. refl)
decides_any P a n b false e h = (λ no. absurd (cc), λ some. absurd (whole (λ x. P x → ⊥) a n h some.0 some.1 (omega (arith, some.2)) some.3))

-- the n numbers from a on, the greatest first
pub down : ℕ → ℕ → List ℕ
down a zero = []
down a (suc n) = (a + n) ∷ down a n

length-down : (a n : ℕ) → length (down a n) ≡ n
unfolding down
length-down a zero = refl
length-down a (suc n) = omega (arith, length-down a n)

get_or-down : (a n i : ℕ) → i < n → get_or (down a n) i 0 + i + 1 ≡ a + n
unfolding down
get_or-down a zero i h = absurd (omega (arith, h))
get_or-down a (suc n) zero h = omega arith
get_or-down a (suc n) (suc i) h = omega (arith, get_or-down a n i (omega (arith, h)))

step_back : (s : Range ℕ) (x : ℕ) (t : Range ℕ) → nat_range_steps_back s (Some x) t → down s.start (s.end - s.start) ≡ x ∷ down t.start (t.end - t.start)
unfolding down
step_back s x t h =
    let one_less : s.end - s.start ≡ suc (t.end - t.start) = omega (arith, h.0, h.1.0, h.1.2) in
    let here : s.start + (t.end - t.start) ≡ x = omega (arith, h.0, h.1.0, h.1.1, h.1.2) in
    ap (down s.start) one_less ∙ ap (λ (n : ℕ). n ∷ down s.start (t.end - t.start)) here ∙ ap (λ (n : ℕ). x ∷ down n (t.end - t.start)) (sym h.0)

pub YieldsList-from_range_back : (s : Range ℕ) → YieldsList nat_range_steps_back (λ x. x) s (down s.start (s.end - s.start))
YieldsList-from_range_back s =
    YieldsList-from_shown nat_range_steps_back (λ x. x) (λ (t : Range ℕ). down t.start (t.end - t.start)) (λ t u h. length-down _ _ ∙ h.1.0) step_back s

-- `rfind` over a range `a..b`
pub last_from_rfind : (Yes No : ℕ → Type 0) (a b : ℕ) (r : Option ℕ)
    → MatchOption r (AllWithin No (down a (b - a)) 0 (length (down a (b - a))))
    (λ x. Yes x × (i : ℕ) × (i < length (down a (b - a))) × HoldsAt (λ y. y ≡ x) (down a (b - a)) i × AllWithin No (down a (b - a)) 0 i)
    → MatchOption r ((k : ℕ) → a ≤ k → k < b → No k) (λ x. Yes x × (a ≤ x) × (x < b) × ((k : ℕ) → x < k → k < b → No k))
last_from_rfind Yes No a b None h = λ k low high.
    let n = b - a in
    let i = b - 1 - k in
    let at : get_or (down a n) i 0 ≡ k = omega (arith, get_or-down a n i (omega arith)) in
    subst No at (h i 0 zero-le (omega (arith, length-down a n)))
last_from_rfind Yes No a b (Some x) h =
    let n = b - a in
    let i = h.1 in
    let inside : i < n = omega (arith, h.2, length-down a n) in
    let here : x + i + 1 ≡ a + n = omega (arith, get_or-down a n i inside, h.3 0) in (
      h.0,
      omega arith,
      omega arith,
      λ k low high.
          let j = b - 1 - k in
          let at : get_or (down a n) j 0 ≡ k = omega (arith, get_or-down a n j (omega arith)) in
          subst No at (h.4 j 0 zero-le (omega arith)),
    )
