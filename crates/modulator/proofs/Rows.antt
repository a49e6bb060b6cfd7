-- Rows of one length that are joined end to end.
use Rattle.std.proofs.Common.{◌≡◌, ℕ, zero, suc, ◌+◌, ◌*◌, ◌<◌, List, [], ◌∷◌, ◌++◌, length, get_or, take, drop, set, sym, ap, ◌∙◌, inl, inr, arith, length-set, get_or-set_other, get_or-set_same}
use Rattle.std.proofs.lemmas.Bool.{cases_eq}
use Rattle.std.proofs.lemmas.List.{take-append-le, take_all, drop-append-le, drop_all, drop-drop}
use Rattle.std.specs.List.{flat_map}

-- each row has n elements
abbrev pub RowsOf : ℕ → List (List ℕ) → Type 0
RowsOf n rows = (i : ℕ) → i < length rows → length (get_or rows i []) ≡ n

-- row k stands after k rows
pub row_at :
    (n k : ℕ) (rows : List (List ℕ)) → k < length rows → RowsOf n rows →
    take n (drop (n * k) (flat_map (λ x. x) rows)) ≡ get_or rows k []
row_at n k [] within long = absurd (omega arith)
row_at n zero (x ∷ rows) within long =
    let first : n * 0 ≡ 0 = omega arith in
    let size : length x ≡ n = long 0 (omega arith) in
    ap (λ (m : ℕ). take n (drop m (x ++ flat_map (λ y. y) rows))) first
    ∙ take-append-le n x (flat_map (λ y. y) rows) (omega (arith, size))
    ∙ take_all n x (omega (arith, size))
row_at n (suc k) (x ∷ rows) within long =
    let next : n * suc k ≡ n + n * k = omega arith in
    let size : length x ≡ n = long 0 (omega arith) in
    let rest = flat_map (λ y. y) rows in
    ap (λ (m : ℕ). take n (drop m (x ++ rest))) next
    ∙ ap (λ (ys : List ℕ). take n ys) (sym (drop-drop (n * k) n (x ++ rest)))
    ∙ ap (λ (ys : List ℕ). take n (drop (n * k) ys)) (drop-append-le n x rest (omega (arith, size)))
    ∙ ap (λ (ys : List ℕ). take n (drop (n * k) (ys ++ rest))) (drop_all n x (omega (arith, size)))
    ∙ row_at n k rows (omega arith) (λ i below. long (suc i) (omega arith))

-- another row of that length takes the place of one
pub rows_more : (n k : ℕ) (rows : List (List ℕ)) (row : List ℕ) → RowsOf n rows → length row ≡ n → RowsOf n (set rows k row)
rows_more n k rows row long size i within =
    let inside : i < length rows = omega (arith, within, length-set rows k row) in
    elim (cases_eq i k) [
      | inl same ↦
          let here : k < length rows = omega (arith, inside, same) in
          rw (same, get_or-set_same) size
      | inr apart ↦
          rw get_or-set_other (long i inside)
    ]
