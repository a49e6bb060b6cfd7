-- Where the packets come from. Assumes nothing.
use Rattle.std.specs.Prelude.{◌≡◌, ℕ, ◌^◌, List, [], ◌∷◌, ◌++◌, length, codes, ◌≢◌}
use Rattle.modulate_job.specs.Numbers.{Number}
use Rattle.run_inputs.specs.declared.source.Source.{Source}
use Rattle.run_inputs.specs.declared.source.Source.TheVariants.{File, Pattern}
use denote.Ref.{Bor}

-- the text is these numbers of 16 bits, with commas between them
abbrev pub Counts : List ℕ → List ℕ → Type 0
Counts text [] = ⊥
Counts text (n ∷ []) = Number (2 ^ 16) text n
Counts text (n ∷ m ∷ ns) =
    (word : List ℕ) × (rest : List ℕ) × (text ≡ word ++ (44 ∷ rest)) × Number (2 ^ 16) word n × Counts rest (m ∷ ns)

-- the word is `pattern:` and eight counts, or it does not begin so and names a file
abbrev pub Names : List ℕ → Source (Bor (List ℕ)) → Type 0
Names word (Pattern ns) = (text : List ℕ) × (word ≡ codes "pattern:" ++ text) × (length ns ≡ 8) × Counts text ns
Names word (File path) = (path.now ≡ word) × ((text : List ℕ) → word ≢ codes "pattern:" ++ text)
