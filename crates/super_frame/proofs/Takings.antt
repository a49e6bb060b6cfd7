-- One more row put into its word. Assumes nothing.
use Rattle.std.proofs.Common.{◌≡◌, ℕ, ◌+◌, ◌*◌, ◌<◌, ◌≤◌, ◌≢◌, List, [], ◌∷◌, length, get_or, add-one, sym, ap, ◌∙◌, subst, ⊎_elim, arith}
use borrow.Rule.Slice.PartMut.{put_mid}
use Rattle.frame_layout.proofs.Chunks.{chunks, chunk_long, chunk_item}
use Rattle.std.proofs.lemmas.Bool.{cases_eq, cases_lt}
use Rattle.super_frame.specs.Reads.{words_size, word_place, RowPut, RowsPut, Taken, SameWords}
use Rattle.super_frame.proofs.Finished.{number_below}
use Rattle.super_frame.proofs.Overwritten.{put_below, put_in, put_above}
use Rattle.super_frame.proofs.Staging.{same_number}

pub word_within : (slots frame slot : ℕ) → frame < 8 → slot < slots → word_place slots frame slot + 204 ≤ words_size slots
word_within slots frame slot hf hs = omega (arith, number_below slots frame slot hf hs)

module _
    {X : Type 0} (rest first : X) (slots slot n start : ℕ) (rows before after : List X) (hs : slot < slots) (es : start ≡ word_place slots n slot)
    (put : RowPut rest rows n first before start after)
  where
    -- what the row leaves
    pub left_word :
        (m i : ℕ) → i < 204 → m ≢ n * slots + slot → get_or after (204 * m + i) rest ≡ get_or before (204 * m + i) rest
    left_word m i hi ne =
        ⊎_elim (λ lower. put.below (204 * m + i) (omega (arith, es, lower))) (λ upper. put.above (204 * m + i) (omega (arith, es, upper, ne)))
        (cases_lt m (n * slots + slot))

    pub rows_more : RowsPut rest first slots slot n rows before → RowsPut rest first slots slot (n + 1) rows after
    rows_more earlier =
        let apart : (frame : ℕ) → (frame ≡ n → ⊥) → frame * slots + slot ≢ n * slots + slot =
        λ frame ne e. ne (same_number slots frame slot n slot hs hs e).0 in
        record {
          begins = λ frame hf.
              ⊎_elim
              (λ e. subst (λ (f : ℕ). get_or after (word_place slots f slot) rest ≡ first) (sym e) (ap (λ (k : ℕ). get_or after k rest) (sym es) ∙ put.begins))
              (λ ne.
              let z : word_place slots frame slot + 0 ≡ word_place slots frame slot = omega arith in
              subst (λ (k : ℕ). get_or after k rest ≡ first) z
              (left_word (frame * slots + slot) 0 (omega arith) (apart frame ne) ∙ (ap (λ (k : ℕ). get_or before k rest) z ∙ earlier.begins frame (omega (arith, ne)))))
              (cases_eq frame n);
          row = λ frame c hf hc.
              ⊎_elim
              (λ e.
              subst (λ (f : ℕ). get_or after (word_place slots f slot + (c + 1)) rest ≡ get_or rows (203 * f + c) rest) (sym e)
              (ap (λ (k : ℕ). get_or after (k + (c + 1)) rest) (sym es) ∙ put.row c hc))
              (λ ne. left_word (frame * slots + slot) (c + 1) (omega arith) (apart frame ne) ∙ earlier.row frame c (omega (arith, ne)) hc)
              (cases_eq frame n);
        }

    pub others_left : (other : ℕ) → other < slots → other ≢ slot → SameWords rest slots before after other
    others_left other ho ne frame i hf hi =
        left_word (frame * slots + other) i hi (λ e. ne (same_number slots frame other n slot ho hs e).1)

-- the words of a slot stay taken while they are left
pub taken_left :
    {X : Type 0} (rest first : X) (slots slot : ℕ) (stream before after : List X) → SameWords rest slots before after slot →
    Taken rest first slots stream before slot → Taken rest first slots stream after slot
taken_left {X} rest first slots slot stream before after same taken =
    record {
      begins = λ frame hf.
          let z : word_place slots frame slot + 0 ≡ word_place slots frame slot = omega arith in
          subst (λ (k : ℕ). get_or after k rest ≡ first) z
          (same frame 0 hf (omega arith) ∙ (ap (λ (k : ℕ). get_or before k rest) z ∙ taken.begins frame hf));
      row = λ frame c hf hc. same frame (c + 1) hf (omega arith) ∙ taken.row frame c hf hc;
    }

-- a row of a block that is written behind an element as a word
pub row_put :
    {X : Type 0} (rows : List X) → length rows ≡ 1624 → (frame : ℕ) (row : List X) → frame < 8 → row ≡ get_or (chunks 203 rows) frame [] →
    (rest first : X) (words word : List X) (start k : ℕ) → word ≡ first ∷ row → start + 204 ≤ length words → k ≡ 204 →
    RowPut rest rows frame first words start (put_mid start k words word)
row_put rows size frame row below is rest first words word start k w room e =
    let long : length word ≡ k = ap length w ∙ omega (arith, chunk_long 203 8 rows (omega arith) size frame row below is) in
    let fits : start + k ≤ length words = omega arith in
    record {
      begins =
          let z : start + 0 ≡ start = omega arith in
          ap (λ (j : ℕ). get_or (put_mid start k words word) j rest) (sym z)
          ∙ (put_in start k words word rest fits long 0 (omega arith) ∙ ap (λ ys. get_or ys 0 rest) w);
      row = λ c h.
          put_in start k words word rest fits long (c + 1) (omega arith)
          ∙ (ap (λ ys. get_or ys (c + 1) rest) w
          ∙ (ap (λ (j : ℕ). get_or (first ∷ row) j rest) (add-one c) ∙ chunk_item 203 8 rows (omega arith) size frame row below is rest c h));
      below = put_below start k words word rest fits long;
      above = λ place h. put_above start k words word rest fits long place (omega arith);
    }
