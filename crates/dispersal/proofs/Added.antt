-- The sequence added to bytes, element by element, and twice. Assumes nothing.
use Rattle.std.proofs.Common.{◌≡◌, ℕ, zero, suc, ◌+◌, ◌<◌, ◌≤◌, List, [], ◌∷◌, ◌++◌, length, get_or, take, drop, sym, refl, ap, ◌∙◌, ap₂, add-zero, arith, length-drop, take-add}
use lib.Bits.{bit_xor, xor_assoc, xor_self, xor_zero_r}
use borrow.Rule.Slice.PartMut.{put_mid}
use Rattle.std.proofs.lemmas.List.{length-take-le, drop-drop}
use Rattle.std.proofs.lemmas.Slice.{take-put_mid, drop-put_mid}
use Rattle.dispersal.specs.Stages.{sequence, added, Twice}

pub length_added : (n : ℕ) (xs : List ℕ) → length (added n xs) ≡ length xs
unfolding added
length_added n [] = refl
length_added n (x ∷ xs) = ap suc (length_added (n + 1) xs)

pub get_or_added : (n : ℕ) (xs : List ℕ) (k : ℕ) → k < length xs → get_or (added n xs) k 0 ≡ bit_xor (get_or xs k 0) (sequence (n + k))
unfolding added
get_or_added n [] k h = absurd (omega (arith, h))
get_or_added n (x ∷ xs) zero h = ap (λ (m : ℕ). bit_xor x (sequence m)) (omega arith)
get_or_added n (x ∷ xs) (suc k) h =
    let on : n + 1 + k ≡ n + suc k = omega arith in
    get_or_added (n + 1) xs k (omega (arith, h)) ∙ ap (λ (m : ℕ). bit_xor (get_or xs k 0) (sequence m)) on

pub added_append : (n : ℕ) (xs ys : List ℕ) → added n (xs ++ ys) ≡ added n xs ++ added (n + length xs) ys
unfolding added
added_append n [] ys = rw add-zero refl
added_append n (x ∷ xs) ys =
    let on : n + 1 + length xs ≡ n + suc (length xs) = omega arith in
    ap (λ (zs : List ℕ). bit_xor x (sequence n) ∷ zs) (added_append (n + 1) xs ys ∙ ap (λ (m : ℕ). added (n + 1) xs ++ added m ys) on)

pub twice : Twice
unfolding added
twice n [] = refl
twice n (x ∷ xs) = rw (xor_assoc, xor_self, xor_zero_r) (ap (λ (ys : List ℕ). x ∷ ys) (twice (n + 1) xs))

-- The sequence was added up to a place; then it is added to the k bytes from there on.
module _
    (n a k : ℕ) (xs bs ys : List ℕ) (fits : a + k ≤ length xs) (same : length bs ≡ length xs) (done : take a bs ≡ added n (take a xs))
    (left : drop a bs ≡ drop a xs) (part : ys ≡ added (n + a) (take k (drop a bs)))
  where
    long : length ys ≡ k
    long =
        let room : k ≤ length (drop a bs) = omega (arith, length-drop a bs) in
        ap length part ∙ (length_added (n + a) (take k (drop a bs)) ∙ length-take-le k (drop a bs) room)

    pub added_front : take (a + k) (put_mid a k bs ys) ≡ added n (take (a + k) xs)
    added_front =
        let front : n + a ≡ n + length (take a xs) = omega (arith, length-take-le a xs (omega arith)) in
        let ys-are : ys ≡ added (n + length (take a xs)) (take k (drop a xs)) =
        part ∙ ap₂ (λ (m : ℕ) (zs : List ℕ). added m (take k zs)) front left in
        take-put_mid a k bs ys (a + k) (omega (arith, long)) (omega arith)
        ∙ (ap₂ (λ (us vs : List ℕ). us ++ vs) done ys-are
        ∙ (sym (added_append n (take a xs) (take k (drop a xs))) ∙ ap (λ (zs : List ℕ). added n zs) (sym (take-add a k xs))))

-- what stands behind those bytes is as it was
pub rest_left :
    (a k : ℕ) (xs bs ys : List ℕ) → a + k ≤ length bs → drop a bs ≡ drop a xs → length ys ≡ k → drop (a + k) (put_mid a k bs ys) ≡ drop (a + k) xs
rest_left a k xs bs ys fits left long =
    drop-put_mid a k bs ys (a + k) (omega arith) (omega arith) long
    ∙ (sym (drop-drop k a bs) ∙ (ap (λ (zs : List ℕ). drop k zs) left ∙ drop-drop k a xs))
