-- Errors at the listed places, taken away.
-- Assumes nothing.
use Rattle.std.proofs.Common.{Bor, Iter, Option, Some, None, ◌≡◌, ℕ, zero, suc, ◌-◌, ◌<◌, ◌≤◌, ◌≢◌, ◌⊎◌, List, [], ◌∷◌, length, get_or, set, take, sym, refl, ap, ◌∙◌, inl, inr, arith, length-set, length-take, length-take-le, get_or-set_other, get_or-set_same}
use Rattle.std.proofs.lemmas.List.{get_or-take, get_or_past, set_past}
use Rattle.std.proofs.lemmas.Iterator.{zips}
use Rattle.std.proofs.lemmas.Slice.Zip.{zip_turn, zip_end}
use Rattle.std.proofs.iter.Yields.{fronts}
use Rattle.std.specs.Iterator.{Yields}
use Rattle.std.specs.Iterator.Adapters.{zip_first, zip_second}
use Rattle.std.specs.Slice.Iter.{iter_rest}
use Rattle.std.specs.declared.iter.Zip.{Zip}
use Rattle.field256.specs.Field.{plus, times, power}
use Rattle.field256.proofs.Laws.{plus_assoc, plus_comm, plus_left_comm, plus_self, plus_zero, plus_fits, plus_times}
use Rattle.code_theory.specs.Codeword.{Bytes, Codeword, distance}
use Rattle.code_theory.specs.Sequences.{Values, place, sum}
use Rattle.code_theory.proofs.Sums.{sum_none, sum_more}
use Rattle.code_theory.proofs.Totals.{total, total_cons, value_total}
use Rattle.code_theory.proofs.Differences.{distance_same, distance_set}
use Rattle.locator.specs.Roots.{Ordered, Listed}
use Rattle.locator.specs.Errors.{ZeroElsewhere, changed, corrected, error_value}
use Rattle.parity.proofs.Byte.{bytes_set}
use Rattle.locator.proofs.Valued.{places_apart}

pub corrected_none : (places values w : List ℕ) → corrected 0 places values w ≡ w
unfolding corrected
corrected_none places values w = refl

pub corrected_more : (m : ℕ) (places values w : List ℕ)
    → corrected (suc m) places values w ≡ changed (corrected m places values w) (get_or places m 0) (get_or values m 0)
unfolding corrected
corrected_more m places values w = refl

pub changed_set : (w : List ℕ) (k v : ℕ) → changed w k v ≡ set w k (plus (get_or w k 0) v)
unfolding changed
changed_set w k v = refl

-- a place past the end changes nothing
pub changed_past : (w : List ℕ) (k v : ℕ) → length w ≤ k → changed w k v ≡ w
changed_past w k v h = changed_set w k v ∙ set_past w k (plus (get_or w k 0) v) h

pub corrected_length : (m : ℕ) (places values w : List ℕ) → length (corrected m places values w) ≡ length w
corrected_length zero places values w = rw (corrected_none places values w)
corrected_length (suc m) places values w = rw (corrected_more m places values w, changed_set, length-set) (corrected_length m places values w)

-- one byte, as one more error is taken away
pub byte_here : (m place : ℕ) (places values w : List ℕ) → get_or places m 0 ≡ place → place < length w
    → get_or (corrected (suc m) places values w) place 0 ≡ plus (get_or (corrected m places values w) place 0) (get_or values m 0)
byte_here m place places values w e l =
    let so_far : List ℕ = corrected m places values w in
    rw (corrected_more m places values w, changed_set so_far (get_or places m 0) (get_or values m 0), e)
    (get_or-set_same so_far place _ 0 (omega (arith, corrected_length m places values w)))

pub byte_other : (m place : ℕ) (places values w : List ℕ) → get_or places m 0 ≢ place
    → get_or (corrected (suc m) places values w) place 0 ≡ get_or (corrected m places values w) place 0
byte_other m place places values w o =
    let so_far : List ℕ = corrected m places values w in
    rw (corrected_more m places values w, changed_set so_far (get_or places m 0) (get_or values m 0))
    (get_or-set_other so_far (get_or places m 0) place _ 0 (λ e. o (sym e)))

-- a walk over the errors, which has come to as many as it has yielded
module _ (count : ℕ) (places values : List ℕ) (yielded : List (Bor ℕ × Bor ℕ)) (s t u : Zip (Iter ℕ) (Iter ℕ)) (r : Option (Bor ℕ × Bor ℕ))
    (first : iter_rest (zip_first s) ≡ take count places) (second : iter_rest (zip_second s) ≡ values) (so_far : Yields (zips fronts fronts) s yielded t)
    (step : zips fronts fronts t r u) where
  pub error_here : (p : Bor ℕ × Bor ℕ) → r ≡ Some p → (p.0.now ≡ get_or places (length yielded) 0) × (p.1.now ≡ get_or values (length yielded) 0)
  error_here p e =
      let h = zip_turn (take count places) values yielded s t u r first second so_far p e step in
      let inside : length yielded < count = omega (arith, h.0, length-take count places) in
      (h.2 0 ∙ get_or-take count places (length yielded) 0 inside, h.3 0)

  pub errors_end : count ≤ length places → count ≤ length values → r ≡ None → length yielded ≡ count
  errors_end few room e =
      omega (arith, length-take-le count places few, zip_end (take count places) values yielded s t u r first second so_far e step)

same_or : (a b : ℕ) → (a ≡ b) ⊎ (a ≢ b)
same_or a b = search arith

here_or : (i m : ℕ) → i < suc m → (i ≡ m) ⊎ (i < m)
here_or i m h = search arith

-- the values are the bytes of a word e at the places
module _ (n count : ℕ) (places values : List ℕ) (order : Ordered n count places) (w e : List ℕ) (size : length w ≡ n)
    (are : (k : ℕ) → k < count → get_or values k 0 ≡ get_or e (get_or places k 0) 0) where
  -- each byte is corrected, or its place is not among the first m
  each : (m : ℕ) → m ≤ count → (i : ℕ)
      → ((get_or (corrected m places values w) i 0 ≡ plus (get_or w i 0) (get_or e i 0)) × Listed m places i)
      ⊎ ((get_or (corrected m places values w) i 0 ≡ get_or w i 0) × (Listed m places i → ⊥))
  each zero l i = inr (rw (corrected_none places values w), λ t. omega (arith, t.1))
  each (suc m) l i =
      let so_far : List ℕ = corrected m places values w in
      let p : ℕ = get_or places m 0 in
      let whole : corrected (suc m) places values w ≡ set so_far p (plus (get_or so_far p 0) (get_or values m 0))
      = corrected_more m places values w ∙ changed_set so_far p (get_or values m 0) in
      let inside : p < length so_far = omega (arith, order.within m l, corrected_length m places values w) in
      elim (same_or i p) [
        | inl s ↦
            inl (
              rw (whole, s, get_or-set_same so_far p (plus (get_or so_far p 0) (get_or values m 0)) 0 inside, are m l)
                  (elim (each m (omega arith) p)
                  [ inl twice ↦ absurd (again m l twice.1) | inr once ↦ rw once.0 ]),
              (m, omega arith, sym s),
            )
        | inr o ↦
            let kept : get_or (set so_far p (plus (get_or so_far p 0) (get_or values m 0))) i 0 ≡ get_or so_far i 0
            = get_or-set_other so_far p i _ 0 o in
            elim (each m (omega arith) i) [
              | inl done ↦ inl (rw (whole, kept) done.0, (done.1.0, omega (arith, done.1.1), done.1.2))
              | inr left ↦ inr (
                rw (whole, kept) left.0,
                λ t. elim (here_or t.0 m t.1)
                    [ inl c ↦ o (sym t.2 ∙ ap (λ (a : ℕ). get_or places a 0) c) | inr a ↦ left.1 (t.0, a, t.2) ],
              )
            ]
      ]
    where
      again : (m : ℕ) → m < count → Listed m places (get_or places m 0) → ⊥
      again m l t = places_apart n count places order t.0 m (omega (arith, t.1)) l (λ c. omega (arith, t.1)) t.2

  -- all bytes are corrected, if e is zero elsewhere
  pub all_corrected : ZeroElsewhere count places e → length e ≡ n → (i : ℕ)
      → get_or (corrected count places values w) i 0 ≡ plus (get_or w i 0) (get_or e i 0)
  all_corrected clear le i =
      elim (each count (omega arith) i) [
        | inl done ↦ done.0
        | inr left ↦ left.0 ∙ sym (rw (none left.1) (plus_zero (get_or w i 0)))
      ]
    where
      none : (Listed count places i → ⊥) → get_or e i 0 ≡ 0
      none out =
          elim (zero_or (get_or e i 0) (length e) i) [
            | inl z ↦ z
            | inr (inl past) ↦ get_or_past e i 0 past
            | inr (inr some) ↦ absurd (out (clear i some.1 some.0))
          ]
        where
          zero_or : (a b c : ℕ) → (a ≡ 0) ⊎ ((b ≤ c) ⊎ ((a ≢ 0) × (c < b)))
          zero_or a b c = search arith

-- ---- how far the corrected word is

pub corrected_close : (m : ℕ) (places values w : List ℕ) → distance w (corrected m places values w) ≤ m
corrected_close zero places values w = rw (corrected_none places values w) (omega (arith, distance_same w))
corrected_close (suc m) places values w =
    let so_far : List ℕ = corrected m places values w in
    rw (corrected_more m places values w, changed_set so_far (get_or places m 0) (get_or values m 0))
    (omega (arith, corrected_close m places values w, distance_set w so_far (get_or places m 0) (plus (get_or so_far (get_or places m 0) 0) (get_or values m 0))))

-- ---- the values of the corrected word

total_changed : (g : ℕ → ℕ) (w : List ℕ) (k v : ℕ) → k < length w
    → total g (set w k (plus (get_or w k 0) v)) ≡ plus (total g w) (times v (g (place (length w) k)))
total_changed g [] k v l = absurd (omega arith)
total_changed g (b ∷ bs) zero v l =
    let here : suc (length bs) - 1 - 0 ≡ length bs = omega arith in
    rw (total_cons g (plus b v) bs, total_cons g b bs, here, plus_times b v (g (power 2 (length bs))))
    (simp (plus_assoc, plus_comm, plus_left_comm))
total_changed g (b ∷ bs) (suc k) v l =
    let there : suc (length bs) - 1 - suc k ≡ length bs - 1 - k = omega arith in
    rw (total_cons g b (set bs k (plus (get_or bs k 0) v)), total_cons g b bs, there, length-set bs k (plus (get_or bs k 0) v), total_changed g bs k v (omega arith))
    (sym (plus_assoc _ _ _))

pub corrected_bytes : (m : ℕ) (places values w : List ℕ) → Bytes w → Bytes values → Bytes (corrected m places values w)
corrected_bytes zero places values w f fv = rw (corrected_none places values w) f
corrected_bytes (suc m) places values w f fv =
    let so_far : List ℕ = corrected m places values w in
    let fits : Bytes so_far = corrected_bytes m places values w f fv in
    rw (corrected_more m places values w, changed_set so_far (get_or places m 0) (get_or values m 0))
    (bytes_set so_far (get_or places m 0) _ fits (plus_fits _ _ (fits (get_or places m 0)) (fv m)))

module _ (n count : ℕ) (places values : List ℕ) (order : Ordered n count places) (w : List ℕ) (size : length w ≡ n) where
  corrected_total : (g : ℕ → ℕ) (m : ℕ) → m ≤ count
      → total g (corrected m places values w) ≡ plus (total g w) (sum m (λ l. times (get_or values l 0) (g (place n (get_or places l 0)))))
  corrected_total g zero l = rw (corrected_none places values w, sum_none (λ (k : ℕ). times (get_or values k 0) (g (place n (get_or places k 0))))) (sym (plus_zero (total g w)))
  corrected_total g (suc m) l =
      let so_far : List ℕ = corrected m places values w in
      let p : ℕ = get_or places m 0 in
      rw (corrected_more m places values w, changed_set so_far p (get_or values m 0))
      (total_changed g so_far p (get_or values m 0) (omega (arith, corrected_length m places values w ∙ size, order.within m l))
      ∙ rw (corrected_length m places values w ∙ size, corrected_total g m (omega arith), sum_more m (λ (k : ℕ). times (get_or values k 0) (g (place n (get_or places k 0)))))
      (plus_assoc _ _ _))

  -- where the errors have the word's values, a codeword is left
  pub codeword_left : (s : List ℕ) → length s ≡ 16 → Bytes w → Bytes values → Values s w
      → ((j : ℕ) → j < 16 → error_value n count places values j ≡ get_or s j 0) → Codeword (corrected count places values w)
  unfolding error_value
  codeword_left s sixteen f fv v errors j l =
      value_total (corrected count places values w) j (corrected_bytes count places values w f fv)
      ∙ corrected_total (λ x. power x j) count (omega arith)
      ∙ rw (errors j l, v j (omega arith), value_total w j f) (plus_self (total (λ x. power x j) w))
