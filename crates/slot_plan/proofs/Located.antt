-- The walk along the lines to a slot, one line at a time. Assumes nothing.
use Rattle.std.proofs.Common.{◌≡◌, ℕ, ◌+◌, ◌-◌, ◌<◌, ◌≤◌, List, length, ◌∷◌, get_or, drop, sym, ap, ◌∙◌, arith}
use Rattle.std.proofs.Math.ListN.{get_or-map}
use Rattle.std.proofs.lemmas.List.{drop_more, drop_all, length-map}
use Rattle.std.proofs.lemmas.Bool.{lt-ltb, le-ltb, cond-true, cond-false}
use Rattle.slot_plan.specs.Layout.{words, counts, word_among, place_among}
use Rattle.slot_plan.specs.declared.fields.Fields.{Fields}
use Rattle.slot_plan.specs.declared.fields.LineNumbers.{LineNumbers}

-- the line at an index, from 0
abbrev pub line_at : Fields → ℕ → LineNumbers
line_at f i = get_or f.lines i (record { word = 0; count = 0 })

word_at : (f : Fields) (i : ℕ) → get_or (words f) i 0 ≡ (line_at f i).word
word_at f i = get_or-map (λ (l : LineNumbers). l.word) f.lines i (record { word = 0; count = 0 })

count_at : (f : Fields) (i : ℕ) → get_or (counts f) i 0 ≡ (line_at f i).count
count_at f i = get_or-map (λ (l : LineNumbers). l.count) f.lines i (record { word = 0; count = 0 })

module _ (f : Fields) (i p : ℕ) (inside : i < length f.lines) where
  words_more : drop i (words f) ≡ (line_at f i).word ∷ drop (i + 1) (words f)
  words_more = drop_more (words f) i 0 (omega (arith, length-map f.lines (λ (l : LineNumbers). l.word))) ∙ ap (λ (w : ℕ). w ∷ drop (i + 1) (words f)) (word_at f i)

  counts_more : drop i (counts f) ≡ (line_at f i).count ∷ drop (i + 1) (counts f)
  counts_more = drop_more (counts f) i 0 (omega (arith, length-map f.lines (λ (l : LineNumbers). l.count))) ∙ ap (λ (c : ℕ). c ∷ drop (i + 1) (counts f)) (count_at f i)

  pub word_here : p < (line_at f i).count → word_among (drop i (words f)) (drop i (counts f)) p ≡ (line_at f i).word
  word_here h = rw (words_more, counts_more) (cond-true _ _ _ (lt-ltb p (line_at f i).count h))

  pub place_here : p < (line_at f i).count → place_among (drop i (counts f)) p ≡ p
  place_here h = rw counts_more (cond-true _ _ _ (lt-ltb p (line_at f i).count h))

  pub word_past :
      (line_at f i).count ≤ p →
      word_among (drop (i + 1) (words f)) (drop (i + 1) (counts f)) (p - (line_at f i).count) ≡ word_among (drop i (words f)) (drop i (counts f)) p
  word_past h = rw (words_more, counts_more) (sym (cond-false _ _ _ (le-ltb p (line_at f i).count h)))

  pub place_past :
      (line_at f i).count ≤ p → place_among (drop (i + 1) (counts f)) (p - (line_at f i).count) ≡ place_among (drop i (counts f)) p
  place_past h = rw counts_more (sym (cond-false _ _ _ (le-ltb p (line_at f i).count h)))

pub word_none : (f : Fields) (cs : List ℕ) (i p : ℕ) → length f.lines ≤ i → word_among (drop i (words f)) cs p ≡ 0
word_none f cs i p h = rw (drop_all i (words f) (omega (arith, length-map f.lines (λ (l : LineNumbers). l.word), h)))
