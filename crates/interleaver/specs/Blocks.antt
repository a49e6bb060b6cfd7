-- A slot's block: eight rows, one for each frame, of 203 columns, stored row by row. The interleaver reads it column by column.
-- Assumes nothing.
use Rattle.std.specs.Prelude.{ℕ, ◌+◌, ◌*◌, ◌/◌, ◌%◌, List, map, slice_index_or}
use Rattle.std.specs.List.{range_with_len}

-- how many elements a block has
abbrev pub size : ℕ
size = 1624

-- of an array stored row by row that is read column by column: where the element stands that is read as number k
abbrev pub place : ℕ → ℕ → ℕ → ℕ
place rows columns k = columns * (k % rows) + k / rows

-- a block read column by column; `rest` stands for what lies beyond a list
unfoldable pub transposed : {X : Type 0} → ℕ → ℕ → X → List X → List X
transposed rows columns rest block = map (λ k. slice_index_or block (place rows columns k) rest) (range_with_len 0 size)

abbrev pub interleaved : {X : Type 0} → X → List X → List X
interleaved rest block = transposed 8 203 rest block

-- the columns of the block are the rows of the interleaved block
abbrev pub deinterleaved : {X : Type 0} → X → List X → List X
deinterleaved rest block = transposed 203 8 rest block

-- row and column, from 1, of element k of an interleaved block
abbrev pub row : ℕ → ℕ
row k = k % 8 + 1

abbrev pub column : ℕ → ℕ
column k = k / 8 + 1
