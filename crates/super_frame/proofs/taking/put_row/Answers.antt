use Rattle.std.proofs.Common.{◌≡◌, ℕ, ◌-◌, List, [], ◌∷◌, ◌++◌, length, set, ap, ◌∙◌, arith}
use borrow.Rule.Slice.PartMut.{put_mid}
use Rattle.std.proofs.lemmas.List.{append-nil, drop_all}
use Rattle.super_frame.proofs.taking.put_row.Goals as goal

-- a word whose first element is written, and then the others
written : {X : Type 0} (first : X) (row word : List X) → length word ≡ 204 → length row ≡ 203 → put_mid 1 (length (set word 0 first) - 1) (set word 0 first) row ≡ first ∷ row
written first row [] long size = absurd (omega arith)
written first row (x ∷ xs) long size =
    let same : length (set (x ∷ xs) 0 first) - 1 ≡ length xs = omega arith in
    ap (λ (k : ℕ). put_mid 1 k (first ∷ xs) row) same
    ∙ ap (λ ys. first ∷ ys) (ap (λ ys. row ++ ys) (drop_all (length xs) xs (omega arith)) ∙ append-nil row)

pub returns : goal.returns
returns g c = ap (λ row. put_mid 1 (length (set c.args.word.now 0 c.args.first) - 1) (set c.args.word.now 0 c.args.first) row) c.copy_from_slice.ensures.after ∙ written c.args.first c.args.row.now c.args.word.now c.requires.1 c.requires.0
