-- The difference of two words, which is their sum: its weight is their distance.
-- Assumes nothing.
use Rattle.std.proofs.Common.{◌≡◌, ℕ, zero, suc, ◌+◌, ◌≤◌, Bool, true, false, cond, eqb, List, [], ◌∷◌, length, get_or, set, sym, refl, ap, ◌∙◌, ap₂, inl, inr, arith}
use Rattle.std.proofs.lemmas.Bool.Decides.{nat_tests, eqb_tells}
use Rattle.std.proofs.lemmas.Bool.{eq-eqb, ne_eqb}
use Rattle.field256.specs.Field.{plus}
use Rattle.field256.proofs.Laws.{plus_assoc, plus_comm, plus_left_comm, plus_self, plus_zero, plus_same, plus_fits, plus_times}
use Rattle.code_theory.specs.Codeword.{Bytes, distance, weight}
use Rattle.code_theory.proofs.Totals.{total, total_nil, total_cons}
use Rattle.code_theory.proofs.Weights.{weight_nil, weight_zero, weight_suc, weight_none_head, weight_none_tail}

abbrev pub difference : List ℕ → List ℕ → List ℕ
difference [] v = []
difference (a ∷ u) [] = []
difference (a ∷ u) (b ∷ v) = plus a b ∷ difference u v

pub length_difference : (u v : List ℕ) → length u ≡ length v → length (difference u v) ≡ length u
length_difference [] v e = refl
length_difference (a ∷ u) [] e = absurd (omega arith)
length_difference (a ∷ u) (b ∷ v) e = ap suc (length_difference u v (omega arith))

pub bytes_difference : (u v : List ℕ) → Bytes u → Bytes v → Bytes (difference u v)
bytes_difference [] v f g k = omega arith
bytes_difference (a ∷ u) [] f g k = omega arith
bytes_difference (a ∷ u) (b ∷ v) f g zero = plus_fits a b (f 0) (g 0)
bytes_difference (a ∷ u) (b ∷ v) f g (suc k) = bytes_difference u v (λ i. f (suc i)) (λ i. g (suc i)) k

pub get_or_difference : (u v : List ℕ) → length u ≡ length v → (k : ℕ) → get_or (difference u v) k 0 ≡ plus (get_or u k 0) (get_or v k 0)
get_or_difference [] [] e k = sym (plus_self 0)
get_or_difference [] (b ∷ v) e k = absurd (omega arith)
get_or_difference (a ∷ u) [] e k = absurd (omega arith)
get_or_difference (a ∷ u) (b ∷ v) e zero = refl
get_or_difference (a ∷ u) (b ∷ v) e (suc k) = get_or_difference u v (omega arith) k

pub total_difference : (g : ℕ → ℕ) (u v : List ℕ) → length u ≡ length v → total g (difference u v) ≡ plus (total g u) (total g v)
total_difference g [] [] e = simp (total_nil, plus_zero)
total_difference g [] (b ∷ v) e = absurd (omega arith)
total_difference g (a ∷ u) [] e = absurd (omega arith)
total_difference g (a ∷ u) (b ∷ v) e =
    let l : length u ≡ length v = omega arith in
    rw (total_cons g (plus a b) (difference u v), total_cons g a u, total_cons g b v, total_difference g u v l, length_difference u v l, ← l)
    (simp (plus_times, plus_assoc, plus_comm, plus_left_comm))

pub distance_cons : (a b : ℕ) (u v : List ℕ) → distance (a ∷ u) (b ∷ v) ≡ cond (eqb a b) 0 1 + distance u v
unfolding distance
distance_cons a b u v = refl

pub distance_nil : (v : List ℕ) → distance [] v ≡ 0
unfolding distance
distance_nil v = refl

pub distance_same : (w : List ℕ) → distance w w ≡ 0
distance_same [] = distance_nil []
distance_same (b ∷ w) = rw (distance_cons b b w w, eq-eqb b b refl, distance_same w) refl

-- one more byte changed
pub distance_set : (u v : List ℕ) (k b : ℕ) → distance u (set v k b) ≤ suc (distance u v)
distance_set [] v k b = rw (distance_nil (set v k b)) (omega arith)
distance_set (a ∷ u) [] k b = omega arith
distance_set (a ∷ u) (c ∷ v) zero b = rw (distance_cons a b u v, distance_cons a c u v) (omega (arith, one (eqb a b)))
  where
    one : (t : Bool) → cond {A = ℕ} t 0 1 ≤ 1
    one true = omega arith
    one false = omega arith
distance_set (a ∷ u) (c ∷ v) (suc k) b =
    rw (distance_cons a c u (set v k b), distance_cons a c u v) (omega (arith, distance_set u v k b))

weight_cons : (d : ℕ) (w : List ℕ) → weight (d ∷ w) ≡ cond (eqb d 0) 0 1 + weight w
weight_cons zero w = rw weight_zero (omega arith)
weight_cons (suc d) w = rw (weight_suc, ne_eqb (suc d) 0 (λ e. omega arith)) (omega arith)

same_test : (a b : ℕ) → eqb (plus a b) 0 ≡ eqb a b
same_test a b =
    elim (eqb_tells a b) [
      | inl t ↦ eq-eqb (plus a b) 0 (rw t.1 (plus_self b)) ∙ sym t.0
      | inr t ↦ ne_eqb (plus a b) 0 (λ e. t.1 (plus_same a b e)) ∙ sym t.0
    ]

pub weight_difference : (u v : List ℕ) → length u ≡ length v → weight (difference u v) ≡ distance u v
weight_difference [] v e = weight_nil ∙ sym (distance_nil v)
weight_difference (a ∷ u) [] e = absurd (omega arith)
weight_difference (a ∷ u) (b ∷ v) e =
    rw (weight_cons, distance_cons, weight_difference u v (omega arith), same_test a b)

pub same_words : (u v : List ℕ) → length u ≡ length v → weight (difference u v) ≡ 0 → u ≡ v
same_words [] [] e h = refl
same_words [] (b ∷ v) e h = absurd (omega arith)
same_words (a ∷ u) [] e h = absurd (omega arith)
same_words (a ∷ u) (b ∷ v) e h =
    ap₂ ◌∷◌ (plus_same a b (weight_none_head _ _ h)) (same_words u v (omega arith) (weight_none_tail _ _ h))

at_most : (a b c : ℕ) → cond (eqb b c) 0 1 ≤ cond (eqb a b) 0 1 + cond (eqb a c) 0 1
at_most a b c = grind (arith, nat_tests)

pub distance_triangle : (w u v : List ℕ) → length w ≡ length u → length w ≡ length v → distance u v ≤ distance w u + distance w v
distance_triangle [] [] v e f = rw distance_nil (omega arith)
distance_triangle [] (b ∷ u) v e f = absurd (omega arith)
distance_triangle (a ∷ w) [] v e f = absurd (omega arith)
distance_triangle (a ∷ w) (b ∷ u) [] e f = absurd (omega arith)
distance_triangle (a ∷ w) (b ∷ u) (c ∷ v) e f =
    rw (distance_cons b c u v, distance_cons a b w u, distance_cons a c w v)
    (omega (arith, at_most a b c, distance_triangle w u v (omega arith) (omega arith)))
