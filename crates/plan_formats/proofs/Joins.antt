-- Fields joined one after the other. Assumes nothing.
use Rattle.std.proofs.Common.{◌≡◌, ℕ, zero, suc, ◌+◌, ◌*◌, ◌^◌, ◌<◌, ◌≤◌, Bool, true, false, T, List, [], ◌∷◌, ◌++◌, length, get_or, map, take, sym, refl, ap, ◌∙◌, add-zero, zero-add, mul-suc, arith}
use Rattle.std.proofs.lemmas.Nat.{pow_pos}
use Rattle.std.proofs.lemmas.List.{map-id, length-take-le}
use Rattle.plan_formats.specs.Bits.{Field, front, joined, width, Fit}
use Rattle.plan_formats.specs.Body.{numbers, Run}
use Rattle.plan_formats.proofs.Steps.{bits_more, below_more}

abbrev pub all_zero : List ℕ → Bool
all_zero [] = true
all_zero (zero ∷ xs) = all_zero xs
all_zero (suc x ∷ xs) = false

pub front_none : (b : List ℕ) → front b 0 ≡ 0
unfolding front
front_none b = refl

pub joined_append : (x : ℕ) (fs gs : List Field) → joined x (fs ++ gs) ≡ joined (joined x fs) gs
unfolding joined
joined_append x [] gs = refl
joined_append x (f ∷ fs) gs = joined_append (x * 2 ^ f.0 + f.1) fs gs

pub width_append : (fs gs : List Field) → width (fs ++ gs) ≡ width fs + width gs
unfolding width
width_append [] gs = sym (zero-add (width gs))
width_append (f ∷ fs) gs = omega (arith, width_append fs gs)

pub fit_append : (fs gs : List Field) → Fit fs → Fit gs → Fit (fs ++ gs)
unfolding Fit
fit_append [] gs a b = b
fit_append (f ∷ fs) gs a b = (a.0, fit_append fs gs a.1 b)

pub fit_right : (fs gs : List Field) → Fit (fs ++ gs) → Fit gs
unfolding Fit
fit_right [] gs a = a
fit_right (f ∷ fs) gs a = fit_right fs gs a.1

pub numbers_append : (w : ℕ) (xs ys : List ℕ) → numbers w (xs ++ ys) ≡ numbers w xs ++ numbers w ys
unfolding numbers
numbers_append w [] ys = refl
numbers_append w (x ∷ xs) ys = ap (λ (l : List Field). (w, x) ∷ l) (numbers_append w xs ys)

pub width_numbers : (w : ℕ) (xs : List ℕ) → width (numbers w xs) ≡ w * length xs
unfolding width numbers
width_numbers w [] = omega arith
width_numbers w (x ∷ xs) = let one : w * suc (length xs) ≡ w * length xs + w = mul-suc w (length xs) in omega (arith, width_numbers w xs, one)

pub length_taken : (n : ℕ) (xs : List ℕ) → n ≤ length xs → length (take n xs) ≡ n
length_taken n xs h = length-take-le n xs h

-- of n numbers
pub width_of : (w : ℕ) (xs : List ℕ) (n : ℕ) → length xs ≡ n → width (numbers w xs) ≡ w * n
width_of w xs n e = width_numbers w xs ∙ ap (λ (k : ℕ). w * k) e

-- of n numbers, each its own value
pub width_values : (w : ℕ) (xs : List ℕ) (n : ℕ) → length xs ≡ n → width (numbers w (map (λ (v : ℕ). v) xs)) ≡ w * n
width_values w xs n e = ap (λ (ys : List ℕ). width (numbers w ys)) (map-id xs) ∙ width_of w xs n e

pub run_none : (x from : ℕ) → Run x from [] x from
unfolding joined width Fit
run_none x from = record { place = sym (add-zero from); value = refl; fits = tt }

pub run_one : (x from w v y : ℕ) → y ≡ x * 2 ^ w + v → v < 2 ^ w → Run x from ((w, v) ∷ []) y (from + w)
unfolding joined width Fit
run_one x from w v y e h = record { place = ap (λ (n : ℕ). from + n) (sym (add-zero w)); value = e; fits = (h, tt) }

-- where a field ends, and that its number fits it
pub one_place : {x from y to : ℕ} (w v : ℕ) → Run x from ((w, v) ∷ []) y to → to ≡ from + w
unfolding width
one_place {x} {from} {y} {to} w v run = omega (arith, run.place)

pub one_fits : {x from y to : ℕ} (w v : ℕ) → Run x from ((w, v) ∷ []) y to → v < 2 ^ w
unfolding Fit
one_fits w v run = run.fits.0

pub run_append :
    {x from y mid z to : ℕ} (fs gs : List Field) → Run x from fs y mid → Run y mid gs z to → Run x from (fs ++ gs) z to
run_append {x} {from} {y} {mid} {z} {to} fs gs a b =
    record {
      place = omega (arith, a.place, b.place, width_append fs gs);
      value = b.value ∙ ap (λ (n : ℕ). joined n gs) a.value ∙ sym (joined_append x fs gs);
      fits = fit_append fs gs a.fits b.fits;
    }

-- one bit more of a number
pub run_bit :
    {x from y mid z to : ℕ} (k v b : ℕ) → Run x from ((k, v) ∷ []) y mid → Run y mid ((1, b) ∷ []) z to →
    Run x from ((k + 1, v * 2 + b) ∷ []) z to
unfolding joined width Fit
run_bit {x} {from} {y} {mid} {z} {to} k v b m n =
    record {
      place = omega (arith, m.place, n.place);
      value = omega (arith, n.value, m.value, bits_more x k v b);
      fits = (below_more k v b m.fits.0 n.fits.0, tt);
    }

pub zeros_at : (xs : List ℕ) → T (all_zero xs) → (k : ℕ) → get_or xs k 0 ≡ 0
zeros_at [] t k = refl
zeros_at (zero ∷ xs) t zero = refl
zeros_at (zero ∷ xs) t (suc k) = zeros_at xs t k
zeros_at (suc x ∷ xs) t k = absurd t

-- each number of a list of one width fits, and so does the 0 beyond them
pub fit_numbers : (w : ℕ) (xs : List ℕ) → Fit (numbers w xs) → (k : ℕ) → get_or xs k 0 < 2 ^ w
unfolding Fit numbers
fit_numbers w [] fit k = pow_pos w
fit_numbers w (x ∷ xs) fit zero = fit.0
fit_numbers w (x ∷ xs) fit (suc k) = fit_numbers w xs fit.1 k
