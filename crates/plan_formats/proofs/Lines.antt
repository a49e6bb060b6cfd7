-- The numbers of lines as fields. Assumes nothing.
use Rattle.std.proofs.Common.{◌≡◌, ℕ, suc, ◌+◌, ◌*◌, ◌≤◌, List, [], ◌∷◌, ◌++◌, length, map, take, refl, ap, ◌∙◌, mul-suc, arith}
use Rattle.std.proofs.lemmas.List.{length-take-le}
use Rattle.slot_plan.specs.declared.fields.LineNumbers.{LineNumbers}
use Rattle.plan_formats.specs.Bits.{Field, width}
use Rattle.plan_formats.specs.Body.{lines, Run}

-- the mode word and the slot count of each line, however many there are
unfoldable pub line_fields : ℕ → ℕ → List LineNumbers → List Field
line_fields w n [] = []
line_fields w n (l ∷ ls) = (w, l.word) ∷ (n, l.count) ∷ line_fields w n ls

pub line_fields_append : (w n : ℕ) (ks ls : List LineNumbers) → line_fields w n (ks ++ ls) ≡ line_fields w n ks ++ line_fields w n ls
unfolding line_fields
line_fields_append w n [] ls = refl
line_fields_append w n (k ∷ ks) ls = ap (λ (fs : List Field). (w, k.word) ∷ (n, k.count) ∷ fs) (line_fields_append w n ks ls)

width_line_fields : (w n : ℕ) (ls : List LineNumbers) → width (line_fields w n ls) ≡ (w + n) * length ls
unfolding width line_fields
width_line_fields w n [] = omega arith
width_line_fields w n (l ∷ ls) =
    let one : (w + n) * suc (length ls) ≡ (w + n) * length ls + (w + n) = mul-suc (w + n) (length ls) in
    omega (arith, width_line_fields w n ls, one)

-- where i lines end
pub lines_place :
    {x from y to : ℕ} (w n : ℕ) (ls : List LineNumbers) (i : ℕ) → Run x from (line_fields w n (take i ls)) y to → i ≤ length ls →
    to ≡ from + (w + n) * i
lines_place {x} {from} {y} {to} w n ls i run h =
    run.place ∙ ap (λ (k : ℕ). from + k) (width_line_fields w n (take i ls) ∙ ap (λ (k : ℕ). (w + n) * k) (length-take-le i ls h))

pub four_lines_same :
    (w n : ℕ) (ls : List LineNumbers) → length ls ≡ 4 →
    line_fields w n ls ≡ lines w n (map (λ (l : LineNumbers). l.word) ls) (map (λ (l : LineNumbers). l.count) ls)
unfolding line_fields lines
four_lines_same w n [] e = absurd (omega (arith, e))
four_lines_same w n (a ∷ []) e = absurd (omega (arith, e))
four_lines_same w n (a ∷ b ∷ []) e = absurd (omega (arith, e))
four_lines_same w n (a ∷ b ∷ c ∷ []) e = absurd (omega (arith, e))
four_lines_same w n (a ∷ b ∷ c ∷ d ∷ []) e = refl
four_lines_same w n (a ∷ b ∷ c ∷ d ∷ f ∷ ls) e = absurd (omega (arith, e))
