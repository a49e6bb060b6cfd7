-- Bits determine fields of known widths, and fields determine their bytes. Assumes nothing.
use Rattle.std.proofs.Common.{◌≡◌, ℕ, zero, suc, ◌+◌, ◌-◌, ◌*◌, ◌/◌, ◌%◌, ◌^◌, ◌<◌, true, eqb, List, [], ◌∷◌, ◌++◌, length, get_or, sym, refl, ap, ◌∙◌, subst, inl, inr, arith}
use Rattle.std.proofs.lemmas.Nat.{shr_high, mod_low}
use Rattle.std.proofs.lemmas.List.{ext_get_or}
use Rattle.std.proofs.lemmas.Bool.{cases_lt, eqb-true}
use Rattle.plan_formats.specs.Bits.{Field, bit, front, joined, Fit, Holds}
use Rattle.plan_formats.specs.Body.{numbers}
use Rattle.plan_formats.specs.Formats.{Bytes}
use Rattle.plan_formats.proofs.Steps.{bit_below}
use Rattle.plan_formats.proofs.Masks.{every, every_at}

-- the fields have the same widths
abbrev pub Alike : List Field → List Field → Type 0
Alike [] [] = Unit {0}
Alike [] (g ∷ gs) = ⊥
Alike (f ∷ fs) [] = ⊥
Alike (f ∷ fs) (g ∷ gs) = (f.0 ≡ g.0) × Alike fs gs

pub alike_append : (es bs cs ds : List Field) → Alike es cs → Alike bs ds → Alike (es ++ bs) (cs ++ ds)
alike_append [] bs [] ds a b = b
alike_append [] bs (c ∷ cs) ds a b = absurd a
alike_append (x ∷ es) bs [] ds a b = absurd a
alike_append (x ∷ es) bs (c ∷ cs) ds a b = (a.0, alike_append es bs cs ds a.1 b)

pub alike_numbers : (w : ℕ) (xs ys : List ℕ) → length xs ≡ length ys → Alike (numbers w xs) (numbers w ys)
unfolding numbers
alike_numbers w [] [] e = tt
alike_numbers w [] (y ∷ ys) e = absurd (omega (arith, e))
alike_numbers w (x ∷ xs) [] e = absurd (omega (arith, e))
alike_numbers w (x ∷ xs) (y ∷ ys) e = (refl, alike_numbers w xs ys (omega (arith, e)))

-- the last w bits, and what stands before them
pub split : (w x y v u : ℕ) → v < 2 ^ w → u < 2 ^ w → x * 2 ^ w + v ≡ y * 2 ^ w + u → (x ≡ y) × (v ≡ u)
split w x y v u hv hu e = (
  sym (shr_high x w v hv) ∙ ap (λ (n : ℕ). n / 2 ^ w) e ∙ shr_high y w u hu,
  sym (mod_low x w v hv) ∙ ap (λ (n : ℕ). n % 2 ^ w) e ∙ mod_low y w u hu,
)

pub same_fields :
    (x y : ℕ) (fs gs : List Field) → Alike fs gs → Fit fs → Fit gs → joined x fs ≡ joined y gs → (x ≡ y) × (fs ≡ gs)
unfolding joined Fit
same_fields x y [] [] a ff fg e = (e, refl)
same_fields x y [] (g ∷ gs) a ff fg e = absurd a
same_fields x y (f ∷ fs) [] a ff fg e = absurd a
same_fields x y (f ∷ fs) (g ∷ gs) a ff fg e =
    let rest = same_fields (x * 2 ^ f.0 + f.1) (y * 2 ^ g.0 + g.1) fs gs a.1 ff.1 fg.1 e in
    let wide : g.1 < 2 ^ f.0 = rw a.0 fg.0 in
    let own = split f.0 x y f.1 g.1 ff.0 wide (rest.0 ∙ ap (λ (n : ℕ). y * 2 ^ n + g.1) (sym a.0)) in
    let here : f ≡ g = λ i. (a.0 i, own.1 i) in
    (own.0, λ i. here i ∷ rest.1 i)

-- equal numbers in the first bits have equal bits
pub same_bits : (a b : List ℕ) (n : ℕ) → front a n ≡ front b n → (place : ℕ) → place < n → bit a place ≡ bit b place
unfolding front
same_bits a b zero e place h = absurd (omega (arith, h))
same_bits a b (suc n) e place h =
    let ha = bit_below a n in
    let hb = bit_below b n in
    let earlier : front a n ≡ front b n = omega (arith, e, ha, hb) in
    let last : bit a n ≡ bit b n = omega (arith, e, ha, hb) in
    elim (cases_lt place n) [
      | inl l ↦ same_bits a b n earlier place l
      | inr l ↦
          let at : place ≡ n = omega (arith, h, l) in
          subst (λ (k : ℕ). bit a k ≡ bit b k) (sym at) last
    ]

-- the number that the eight bits of a byte make
abbrev pub from_bits : ℕ → ℕ
from_bits x =
    128 * (x / 128 % 2) + 64 * (x / 64 % 2) + 32 * (x / 32 % 2) + 16 * (x / 16 % 2) + 8 * (x / 8 % 2) + 4 * (x / 4 % 2) + 2 * (x / 2 % 2) + x / 1 % 2

all_eight : every 256 (λ x. eqb x (from_bits x)) ≡ true
unfolding every
all_eight = refl

pub eight :
    (x : ℕ) → x < 256 →
    x ≡ from_bits x
eight x h = eqb-true _ _ (every_at 256 (λ x. eqb x (from_bits x)) all_eight x h)

-- a byte is its eight bits
byte_bits : (x y : ℕ) → x < 256 → y < 256 → ((i : ℕ) → i < 8 → x / 2 ^ (7 - i) % 2 ≡ y / 2 ^ (7 - i) % 2) → x ≡ y
byte_bits x y hx hy h =
    let a : x / 128 % 2 ≡ y / 128 % 2 = h 0 (omega arith) in
    let b : x / 64 % 2 ≡ y / 64 % 2 = h 1 (omega arith) in
    let c : x / 32 % 2 ≡ y / 32 % 2 = h 2 (omega arith) in
    let d : x / 16 % 2 ≡ y / 16 % 2 = h 3 (omega arith) in
    let e : x / 8 % 2 ≡ y / 8 % 2 = h 4 (omega arith) in
    let f : x / 4 % 2 ≡ y / 4 % 2 = h 5 (omega arith) in
    let g : x / 2 % 2 ≡ y / 2 % 2 = h 6 (omega arith) in
    let i : x / 1 % 2 ≡ y / 1 % 2 = h 7 (omega arith) in
    eight x hx ∙ ap (λ (n : ℕ). 128 * n + 64 * (x / 64 % 2) + 32 * (x / 32 % 2) + 16 * (x / 16 % 2) + 8 * (x / 8 % 2) + 4 * (x / 4 % 2) + 2 * (x / 2 % 2) + x / 1 % 2) a
    ∙ omega (arith, b, c, d, e, f, g, i) ∙ sym (eight y hy)

pub same_bytes :
    (a b : List ℕ) → Bytes a → Bytes b → length a ≡ length b → front a (length a * 8) ≡ front b (length a * 8) → a ≡ b
same_bytes a b ha hb len e =
    ext_get_or 0 a b len
    (λ k h.
    byte_bits (get_or a k 0) (get_or b k 0) (ha k) (hb k)
    (λ i l.
    let place = k * 8 + i in
    let row : place / 8 ≡ k = omega (arith, l) in
    let column : place % 8 ≡ i = omega (arith, l) in
    let bits = same_bits a b (length a * 8) e place (omega (arith, h, l)) in
    subst (λ (r : ℕ). get_or a r 0 / 2 ^ (7 - i) % 2 ≡ get_or b r 0 / 2 ^ (7 - i) % 2) row
    (subst (λ (q : ℕ). get_or a (place / 8) 0 / 2 ^ (7 - q) % 2 ≡ get_or b (place / 8) 0 / 2 ^ (7 - q) % 2) column bits)))

-- the bytes that hold some fields are the only ones
pub holds_same : (a b : List ℕ) (fs : List Field) → Bytes a → Bytes b → Holds a fs → Holds b fs → a ≡ b
holds_same a b fs ha hb p q =
    let len : length a ≡ length b = omega (arith, p.size, q.size) in
    same_bytes a b ha hb len
    (ap (front a) p.size ∙ p.bits ∙ sym q.bits ∙ ap (front b) (sym p.size))
