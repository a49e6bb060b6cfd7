-- Numbers with commas between them.
use Rattle.std.proofs.Common.{◌≡◌, ℕ, ◌+◌, ◌-◌, ◌^◌, ◌<◌, Bool, true, false, List, [], ◌∷◌, ◌++◌, length, get_or, take, drop, set, Option, Some, None, MatchOption, sym, ap, ◌∙◌, subst, refl, ⊎_elim, append_assoc, add-one, arith, get_or-drop, drop-cons}
use Rattle.std.proofs.lemmas.List.{take_more_set, length-drop, take-append-drop}
use Rattle.std.proofs.lemmas.Str.Parse.{digit_at, without_leading_plus_none, without_leading_plus_plus}
use Rattle.std.proofs.lemmas.Str.Pattern.{drop_at_char, finds_char_after}
use Rattle.std.proofs.lemmas.Bool.{cases_eq}
use Rattle.std.specs.Str.Parse.{AllDigits}
use Rattle.std.specs.Str.Pattern.{FindsChar, IsSplitAtFirstMatch}
use Rattle.modulate_job.specs.Numbers.{Number}
use Rattle.modulate_job.specs.Packets.{Counts}

-- no comma stands in a number
no_comma : (limit : ℕ) (word : List ℕ) (n : ℕ) → Number limit word n → (i : ℕ) → i < length word → get_or word i 0 ≡ 44 → ⊥
no_comma limit word n number i within comma =
    ⊎_elim
    (λ plus.
    let digits : AllDigits 10 (drop 1 word) = subst (λ (ds : List ℕ). AllDigits 10 ds) (without_leading_plus_plus word plus) number.digits.1 in
    ⊎_elim
    (λ zero. let first : get_or word i 0 ≡ 43 = subst (λ (k : ℕ). get_or word k 0 ≡ 43) (sym zero) plus in omega (arith, first, comma))
    (λ (some : i ≡ 0 → ⊥).
    let place : 1 + (i - 1) ≡ i = omega arith in
    let here : i - 1 < length (drop 1 word) = rw length-drop (omega arith) in
    let digit = digit_at (drop 1 word) (i - 1) digits here in
    let same : get_or (drop 1 word) (i - 1) 0 ≡ get_or word i 0 = get_or-drop 1 word (i - 1) 0 ∙ ap (λ (k : ℕ). get_or word k 0) place in
    omega (arith, digit, same, comma))
    (cases_eq i 0))
    (λ plain.
    let digits : AllDigits 10 word = subst (λ (ds : List ℕ). AllDigits 10 ds) (without_leading_plus_none word plain) number.digits.1 in
    let digit = digit_at word i digits within in
    omega (arith, digit, comma))
    (cases_eq (get_or word 0 0) 43)

-- what is left of a text is these numbers, or none where no word is left
abbrev pub Left : Bool → List ℕ → List ℕ → Type 0
Left true rest ns = Counts rest ns
Left false rest ns = ns ≡ []

-- a text cut at the first comma into a word and what is left, or not cut where no comma stands in it
abbrev Cut : List ℕ → List ℕ → Bool → List ℕ → Option (ℕ × ℕ) → Type 0
Cut rest word more left found =
    MatchOption found ((word ≡ rest) × (more ≡ false)) (λ q. 0 < q.1 → (word ≡ take q.0 rest) × (more ≡ true) × (left ≡ drop q.1 rest))

-- a number before others
before_counts :
    (text word rest : List ℕ) (n : ℕ) → text ≡ word ++ (44 ∷ rest) → Number (2 ^ 16) word n → (ns : List ℕ) → Counts rest ns → Counts text (n ∷ ns)
before_counts text word rest n e number [] h = absurd h
before_counts text word rest n e number (m ∷ ns) h = (word, rest, e, number, h)

before_found :
    (rest word left : List ℕ) (more : Bool) (found : Option (ℕ × ℕ)) → FindsChar 44 rest found → Cut rest word more left found →
    (n : ℕ) → Number (2 ^ 16) word n → (ns : List ℕ) → Left more left ns → Counts rest (n ∷ ns)
before_found rest word left more None finds cut n number ns h =
    let none : ns ≡ [] = subst (λ (b : Bool). Left b left ns) cut.1 h in
    let last : Counts rest (n ∷ []) = subst (λ (w : List ℕ). Number (2 ^ 16) w n) cut.0 number in
    subst (λ (l : List ℕ). Counts rest (n ∷ l)) (sym none) last
before_found rest word left more (Some (i, j)) finds cut n number ns h =
    let parts = cut (omega (arith, finds.1.ends)) in
    let counts : Counts left ns = subst (λ (b : Bool). Left b left ns) parts.1 h in
    let tail : drop i rest ≡ 44 ∷ left = drop_at_char 44 rest i j finds.1 (omega arith) ∙ ap (λ (l : List ℕ). 44 ∷ l) (sym parts.2) in
    let whole : rest ≡ word ++ (44 ∷ left) =
    sym (take-append-drop i rest) ∙ ap (λ (l : List ℕ). take i rest ++ l) tail ∙ ap (λ (l : List ℕ). l ++ (44 ∷ left)) (sym parts.0) in
    before_counts rest word left n whole number ns counts

after_found :
    (rest word left : List ℕ) (more : Bool) (found : Option (ℕ × ℕ)) → FindsChar 44 rest found → Cut rest word more left found →
    (n : ℕ) (ns : List ℕ) → Counts rest (n ∷ ns) → Number (2 ^ 16) word n × Left more left ns
after_found rest word left more None finds cut n [] counts =
    (subst (λ (w : List ℕ). Number (2 ^ 16) w n) (sym cut.0) counts, subst (λ (b : Bool). Left b left []) (sym cut.1) refl)
after_found rest word left more None finds cut n (m ∷ ns) (first, behind, whole, number, counts) =
    absurd (finds_char_after 44 rest first behind None finds (omega arith) whole (no_comma _ first n number))
after_found rest word left more (Some (i, j)) finds cut n [] counts =
    let tail = drop_at_char 44 rest i j finds.1 (omega arith) in
    let within : i < length rest = omega (arith, length-drop i rest, ap length tail) in
    let here : i ≡ i + 0 = omega arith in
    let comma : get_or rest i 0 ≡ 44 = ap (λ (k : ℕ). get_or rest k 0) here ∙ sym (get_or-drop i rest 0 0) ∙ ap (λ (l : List ℕ). get_or l 0 0) tail in
    absurd (no_comma _ rest n counts i within comma)
after_found rest word left more (Some (i, j)) finds cut n (m ∷ ns) (first, behind, whole, number, counts) =
    let parts = cut (omega (arith, finds.1.ends)) in
    let same = finds_char_after 44 rest first behind (Some (i, j)) finds (omega arith) whole (no_comma _ first n number) in (
      subst (λ (w : List ℕ). Number (2 ^ 16) w n) (sym (parts.0 ∙ same.0)) number,
      subst (λ (b : Bool). Left b left (m ∷ ns)) (sym parts.1) (subst (λ (l : List ℕ). Counts l (m ∷ ns)) (sym (parts.2 ∙ same.1)) counts),
    )

-- a number that was cut off stands before what is left
pub cut_before :
    (rest word left : List ℕ) (more : Bool) → IsSplitAtFirstMatch (FindsChar 44) rest word more left →
    (n : ℕ) → Number (2 ^ 16) word n → (ns : List ℕ) → Left more left ns → Counts rest (n ∷ ns)
cut_before rest word left more cut = before_found rest word left more cut.1.0 cut.1.1 cut.1.2

-- and the numbers of a text are that of the word that was cut off and those of what is left
pub cut_after :
    (rest word left : List ℕ) (more : Bool) → IsSplitAtFirstMatch (FindsChar 44) rest word more left →
    (i : ℕ) (ns : List ℕ) → i < length ns → Counts rest (drop i ns) → Number (2 ^ 16) word (get_or ns i 0) × Left more left (drop (i + 1) ns)
cut_after rest word left more cut i ns within counts =
    let one : drop i ns ≡ get_or ns i 0 ∷ drop (i + 1) ns = drop-cons ns i 0 within ∙ ap (λ (k : ℕ). get_or ns i 0 ∷ drop k ns) (sym (add-one i)) in
    after_found rest word left more cut.1.0 cut.1.1 cut.1.2 (get_or ns i 0) (drop (i + 1) ns) (subst (λ (l : List ℕ). Counts rest l) one counts)

-- one count more of those so far
pub count_more :
    (counts : List ℕ) (i n : ℕ) (ns : List ℕ) → i < length counts → take (i + 1) (set counts i n) ++ ns ≡ take i counts ++ (n ∷ ns)
count_more counts i n ns within = ap (λ (l : List ℕ). l ++ ns) (take_more_set counts i n within) ∙ append_assoc (take i counts) (n ∷ []) ns
