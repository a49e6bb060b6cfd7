-- A message in blocks of eight bytes and the bytes behind them, fed into the register.
-- Assumes nothing.
use Rattle.std.proofs.Common.{◌≡◌, ℕ, zero, suc, ◌+◌, ◌*◌, List, [], ◌∷◌, ◌++◌, length, take, drop, refl, ap, ◌∙◌, append_assoc, append-nil, div-one, arith, take-add}
use Rattle.std.specs.Int.{from_be_bytes}
use Rattle.std.specs.List.{concat}
use Rattle.std.specs.Simd.{first_chunks}
use Rattle.std.proofs.lemmas.List.Folds.{concat-append}
use Rattle.std.proofs.lemmas.Nat.{be_bytes_8}
use mir.Syntax.{w64}
use Rattle.code_theory.specs.Codeword.{Bytes}
use Rattle.parity.specs.Remainder.{bytes_of, shifted, Remainder}

-- eight bytes as one number
pub block_bytes : (bs : List ℕ) (n : ℕ) → length bs ≡ 8 → Bytes bs → n ≡ from_be_bytes w64 bs → bytes_of 8 n ≡ bs
unfolding bytes_of
block_bytes bs n long f e = simp div-one (be_bytes_8 bs n long f e)

-- a number of blocks, joined
pub joined_blocks : (n : ℕ) (xs : List ℕ) → concat (first_chunks 8 n xs) ≡ take (n * 8) xs
joined_blocks zero xs = refl
joined_blocks (suc n) xs =
    let e : suc n * 8 ≡ 8 + n * 8 = omega arith in
    ap (λ (ys : List ℕ). take 8 xs ++ ys) (joined_blocks n (drop 8 xs)) ∙ rw (e, take-add 8 (n * 8) xs) refl

-- what was fed in is made of bytes
bytes_front : (u v : List ℕ) → Bytes (u ++ v) → Bytes u
bytes_front [] v f k = omega arith
bytes_front (b ∷ u) v f zero = f 0
bytes_front (b ∷ u) v f (suc k) = bytes_front u v (λ i. f (suc i)) k

-- the register after a word and these bytes, after these blocks
abbrev pub Fed : List ℕ → List ℕ → ℕ → Type 0
Fed w v r = Bytes (w ++ v) → Remainder (shifted 16 (w ++ v)) r

abbrev pub FedBlocks : List (List ℕ) → ℕ → Type 0
FedBlocks bs r = Fed [] (concat bs) r

-- after one more
abbrev pub Feeds : List ℕ → ℕ → ℕ → Type 0
Feeds v r s = (w : List ℕ) → Bytes w → Remainder (shifted 16 w) r → Remainder (shifted 16 (w ++ v)) s

pub fed_more : (w u v : List ℕ) (r s : ℕ) → Fed w u r → Feeds v r s → Fed w (u ++ v) s
fed_more w u v r s before step f =
    let g : Bytes ((w ++ u) ++ v) = rw append_assoc f in
    let front = bytes_front (w ++ u) v g in
    rw append_assoc at (step (w ++ u) front (before front))

pub block_more : (bs : List (List ℕ)) (b : List ℕ) (r s : ℕ) → FedBlocks bs r → Feeds b r s → FedBlocks (bs ++ (b ∷ [])) s
block_more bs b r s before step =
    let e : concat (bs ++ (b ∷ [])) ≡ concat bs ++ b = concat-append bs (b ∷ []) ∙ ap (λ (ys : List ℕ). concat bs ++ ys) (append-nil b) in
    rw e (fed_more [] (concat bs) b r s before step)
