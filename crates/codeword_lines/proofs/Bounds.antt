-- A bound in a line: decimal digits, and a space behind them.
-- Assumes nothing.
use Rattle.std.proofs.Common.{◌≡◌, ℕ, ◌<◌, List, ◌∷◌, ◌++◌, length, get_or, drop, ap, ◌∙◌, subst, inl, inr, arith, length-append}
use Rattle.std.proofs.Math.Seq.{get_or-append_seam}
use Rattle.std.proofs.lemmas.Bool.{cases_lt}
use Rattle.std.proofs.lemmas.List.{get_or_append_left, drop_at}
use Rattle.codeword_lines.specs.Decimals.{Decimal, DecimalDigit}

-- a text begins with so many digits and no more
abbrev pub Begins : List ℕ → ℕ → Type 0
Begins text n =
    ((k : ℕ) → k < n → DecimalDigit (get_or text k 0)) × (n < length text → DecimalDigit (get_or text n 0) → ⊥)

-- digits end where the first other byte stands, so they are told by their number
counted : (d rest : List ℕ) (n : ℕ) → Decimal d → Begins (d ++ (32 ∷ rest)) n → length d ≡ n
counted d rest n (some, each) (before, end) =
    let size = length-append d (32 ∷ rest) in
    let at = get_or-append_seam d 32 rest 0 in
    elim (cases_lt n (length d)) [
      | inl low ↦ absurd (end (omega arith) (rw (get_or_append_left d (32 ∷ rest) 0 n low) (each n low)))
      | inr high ↦ elim (cases_lt (length d) n) [ inl above ↦ absurd (omega (arith, (before (length d) above).0, at)) | inr below ↦ omega arith ]
    ]

-- behind the digits of a bound stands its space
pub behind : (text d rest : List ℕ) (n : ℕ) → Decimal d → text ≡ d ++ (32 ∷ rest) → Begins text n → drop n text ≡ 32 ∷ rest
behind text d rest n dec e begins =
    ap (drop n) e ∙ drop_at d (32 ∷ rest) n (counted d rest n dec (subst (λ (t : List ℕ). Begins t n) e begins))
