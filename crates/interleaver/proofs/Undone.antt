-- Interleaving and its inverse undo each other, since their places do. Assumes nothing.
use Rattle.std.proofs.Common.{◌≡◌, ℕ, ◌<◌, List, length, get_or, sym, ap, ◌∙◌, arith}
use Rattle.interleaver.specs.Blocks.{size, place, transposed, interleaved, deinterleaved}
use Rattle.interleaver.proofs.Transposed.{get_or_transposed, transposed_from}

pub place_below : (k : ℕ) → k < size → place 8 203 k < size
place_below k h = omega arith

pub home_below : (k : ℕ) → k < size → place 203 8 k < size
home_below k h = omega arith

pub place_of_home : (k : ℕ) → k < size → place 8 203 (place 203 8 k) ≡ k
place_of_home k h = omega arith

pub home_of_place : (k : ℕ) → k < size → place 203 8 (place 8 203 k) ≡ k
home_of_place k h = omega arith

-- reading a block's rows as columns gives it back, if the places of the two readings undo each other
undone :
    {X : Type 0} (rows columns : ℕ) (rest : X) (block : List X) → length block ≡ size →
    ((k : ℕ) → k < size → place columns rows k < size) → ((k : ℕ) → k < size → place rows columns (place columns rows k) ≡ k) →
    transposed columns rows rest (transposed rows columns rest block) ≡ block
undone rows columns rest block long below back =
    sym (transposed_from columns rows rest (transposed rows columns rest block) block long
    (λ k h. sym (get_or_transposed rows columns rest block (place columns rows k) rest (below k h) ∙ ap (λ (j : ℕ). get_or block j rest) (back k h))))

pub deinterleaved_interleaved :
    {X : Type 0} (rest : X) (block : List X) → length block ≡ size → deinterleaved rest (interleaved rest block) ≡ block
deinterleaved_interleaved rest block long = undone 8 203 rest block long home_below place_of_home

pub interleaved_deinterleaved :
    {X : Type 0} (rest : X) (block : List X) → length block ≡ size → interleaved rest (deinterleaved rest block) ≡ block
interleaved_deinterleaved rest block long = undone 203 8 rest block long place_below home_of_place
