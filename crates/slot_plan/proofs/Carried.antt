-- Each slot of a valid frame lies in a used line. Assumes nothing.
use Rattle.std.proofs.Common.{◌≡◌, ℕ, zero, suc, ◌+◌, ◌-◌, ◌<◌, ◌≤◌, ltb, ◌≢◌, List, [], ◌∷◌, length, get_or, sum, sym, refl, ap, ◌∙◌, ⊎_elim, arith}
use Rattle.std.proofs.lemmas.List.{length-map}
use Rattle.std.proofs.lemmas.List.Sums.{sum_by-cons}
use Rattle.std.proofs.lemmas.Bool.{cases_eq, cond_both, ltb-true, ltb-false}
use Rattle.slot_plan.specs.Layout.{word, words, counts, word_among, mode_word}
use Rattle.slot_plan.specs.Modes.{word_of}
use Rattle.slot_plan.specs.Rules.{Valid, CountRule, unused}
use Rattle.slot_plan.specs.declared.fault.PlanFault.TheVariants.{ModeWord, LineCount, CountSum}
use Rattle.slot_plan.specs.declared.fields.Fields.{Fields}
use Rattle.slot_plan.specs.declared.mode.Mode.{Mode}
use Rattle.slot_plan.specs.declared.mode.Mode.TheVariants.{Bpsk12, Qpsk12, Qpsk23, Qpsk34, Qpsk56, Qpsk78, Tc8psk23}

pub mode_of : (w : ℕ) → 1 ≤ w → w ≤ 7 → (m : Mode) × (word_of m ≡ w)
mode_of zero low high = absurd (omega (arith, low))
mode_of (suc zero) low high = (Bpsk12, refl)
mode_of (suc (suc zero)) low high = (Qpsk12, refl)
mode_of (suc (suc (suc zero))) low high = (Qpsk23, refl)
mode_of (suc (suc (suc (suc zero)))) low high = (Qpsk34, refl)
mode_of (suc (suc (suc (suc (suc zero))))) low high = (Qpsk56, refl)
mode_of (suc (suc (suc (suc (suc (suc zero)))))) low high = (Qpsk78, refl)
mode_of (suc (suc (suc (suc (suc (suc (suc zero))))))) low high = (Tc8psk23, refl)
mode_of (suc (suc (suc (suc (suc (suc (suc (suc w)))))))) low high = absurd (omega (arith, high))

-- a line of which no mode has the word is unused
pub line_unused :
    (f : Fields) → Valid f → (line : ℕ) → 1 ≤ line → line ≤ 4 → ((m : Mode) → word_of m ≡ word f line → ⊥) → word f line ≡ unused
line_unused f v line low high none =
    ⊎_elim (λ e. e)
    (λ used.
    let rule = v (ModeWord line) low high used in
    let m = mode_of (word f line) rule.0 rule.1 in
    absurd (none m.0 m.1))
    (cases_eq (word f line) unused)

-- what holds of the word of each line that has slots holds of the word at each place
among :
    (P : ℕ → Type 0) (ws cs : List ℕ) (p : ℕ) → length ws ≡ length cs → p < sum cs →
    ((i : ℕ) → i < length cs → 0 < get_or cs i 0 → P (get_or ws i 0)) → P (word_among ws cs p)
among P ws [] p same h each = absurd (omega (arith, h))
among P [] (c ∷ cs) p same h each = absurd (omega (arith, same))
among P (w ∷ ws) (c ∷ cs) p same h each =
    cond_both (ltb p c) w (word_among ws cs (p - c)) P
    (λ e. each 0 (omega arith) (omega (arith, ltb-true p c e)))
    (λ e. among P ws cs (p - c) (omega (arith, same)) (omega (arith, h, ltb-false p c e, sum_by-cons (λ x. x) c cs)) (λ i h' l. each (suc i) (omega (arith, h')) l))

sum_of_four : (cs : List ℕ) → length cs ≡ 4 → sum cs ≡ get_or cs 0 0 + get_or cs 1 0 + get_or cs 2 0 + get_or cs 3 0
sum_of_four [] e = absurd (omega (arith, e))
sum_of_four (a ∷ []) e = absurd (omega (arith, e))
sum_of_four (a ∷ b ∷ []) e = absurd (omega (arith, e))
sum_of_four (a ∷ b ∷ c ∷ []) e = absurd (omega (arith, e))
sum_of_four (a ∷ b ∷ c ∷ d ∷ []) e = omega arith
sum_of_four (a ∷ b ∷ c ∷ d ∷ x ∷ xs) e = absurd (omega (arith, e))

at_line : (xs : List ℕ) (i : ℕ) → get_or xs (suc i - 1) 0 ≡ get_or xs i 0
at_line xs i = ap (λ (n : ℕ). get_or xs n 0) (omega arith)

-- the line at a place below 4 that has slots has a mode's word
used_word :
    (f : Fields) → Valid f → (i : ℕ) → i < 4 → 0 < get_or (counts f) i 0 → (1 ≤ get_or (words f) i 0) × (get_or (words f) i 0 ≤ 7)
used_word f v i h some =
    let line = suc i in
    let rule : CountRule f line = v (LineCount line) (omega arith) (omega arith) in
    let used : word f line ≢ unused = λ e. omega (arith, some, rule.0 e, at_line (counts f) i) in
    let mode = v (ModeWord line) (omega arith) (omega arith) used in
    (omega (arith, mode.0, at_line (words f) i), omega (arith, mode.1, at_line (words f) i))

pub slot_mode :
    (f : Fields) → length f.lines ≡ 4 → Valid f → (slot : ℕ) → 1 ≤ slot → slot ≤ f.slots →
    (m : Mode) × (word_of m ≡ mode_word f slot)
unfolding mode_word
slot_mode f four v slot low high =
    let lw : length (words f) ≡ 4 = length-map f.lines _ ∙ four in
    let lc : length (counts f) ≡ 4 = length-map f.lines _ ∙ four in
    let in_frame : slot - 1 < sum (counts f) = omega (arith, sum_of_four (counts f) lc, v CountSum) in
    let found = among (λ w. (1 ≤ w) × (w ≤ 7)) (words f) (counts f) (slot - 1) (lw ∙ sym lc) in_frame (λ i h. used_word f v i (omega (arith, lc, h))) in
    mode_of (word_among (words f) (counts f) (slot - 1)) found.0 found.1
