-- The texts of words.
use Rattle.std.proofs.Common.{◌≡◌, ℕ, ◌+◌, ◌-◌, ◌*◌, ◌<◌, List, [], ◌++◌, map, length, get_or, take, drop, string_bytes, String, sym, ap, ◌∙◌, arith, length-append, get_or-drop}
use Rattle.std.proofs.Math.Seq.{drop-append_seam}
use Rattle.std.proofs.lemmas.List.{get_or-map, drop-map, take_all, length-drop, get_or_append_left, drop-drop}
use Rattle.std.specs.declared.alloc.Global.{Global}
use Rattle.modulate_job.specs.Jobs.{Wrong, WrongChanges, RightFront}
use Rattle.modulate_job.specs.declared.misuse.Misuse.{Misuse}
use Rattle.modulate_job.specs.declared.misuse.Misuse.TheVariants.{Few, Pattern, Count, Lone, At, Memory}

-- the text of the word at a place
pub text_at :
    (words : List (String Global)) (i : ℕ) (word : String Global) (text : List ℕ) → i < length words → word ≡ get_or words i word →
    text ≡ string_bytes word → text ≡ get_or (map string_bytes words) i []
text_at words i word text within here e = e ∙ ap string_bytes here ∙ sym (get_or-map string_bytes words i word [] within)

-- the text of a word of those that were cut off from a place on
pub text_of :
    (words pair left : List (String Global)) (n i k : ℕ) (word : String Global) (text : List ℕ) → drop n words ≡ pair ++ left → i < length pair → n + i ≡ k →
    word ≡ get_or pair i word → text ≡ string_bytes word → text ≡ get_or (map string_bytes words) k []
text_of words pair left n i k word text cut within place here e =
    let inside : k < length words = omega (arith, ap length cut, length-append pair left, length-drop n words) in
    let same : word ≡ get_or words k word =
    here ∙ sym (get_or_append_left pair left word i within) ∙ ap (λ (l : List (String Global)). get_or l i word) (sym cut)
    ∙ get_or-drop n words i word ∙ ap (λ (j : ℕ). get_or words j word) place in
    text_at words k word text inside same e

-- what is left when two words more were cut off
pub left_more :
    (words pair left : List (String Global)) (k : ℕ) → drop (2 * k) words ≡ pair ++ left → length pair ≡ 2 → left ≡ drop (2 * (k + 1)) words
left_more words pair left k cut two =
    let place : 2 * k + 2 ≡ 2 * (k + 1) = omega arith in
    sym (drop-append_seam pair left) ∙ ap (λ (j : ℕ). drop j (pair ++ left)) two ∙ ap (drop 2) (sym cut)
    ∙ drop-drop 2 (2 * k) words ∙ ap (λ (j : ℕ). drop j words) place

-- the texts of the words from a place on
pub texts_from :
    (words : List (String Global)) (n : ℕ) → map string_bytes (take (length words - n) (drop n words)) ≡ drop n (map string_bytes words)
texts_from words n =
    ap (map string_bytes) (take_all (length words - n) (drop n words) (rw length-drop (omega arith))) ∙ sym (drop-map string_bytes n words)

-- what is wrong with the changes is wrong with the words
pub wrong_changes : (words : List (List ℕ)) (e : Misuse) → RightFront words → WrongChanges (drop 4 words) e → Wrong words e
wrong_changes words Few front h = absurd h
wrong_changes words (Pattern word) front h = absurd h
wrong_changes words (Count word) front h = absurd h
wrong_changes words (Lone word) front h = (front, h)
wrong_changes words (At word) front h = (front, h)
wrong_changes words Memory front h = (front, h)
