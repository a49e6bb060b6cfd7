-- A line is a request in one way at most.
-- Assumes nothing.
use Rattle.std.proofs.Common.{◌≡◌, ℕ, suc, ◌<◌, List, [], ◌∷◌, ◌++◌, length, get_or, ◌∙◌, subst, arith}
use Rattle.codeword_lines.specs.declared.request.Kind.{Kind}
use Rattle.codeword_lines.specs.declared.request.Kind.TheVariants.{Slot, Tmcc}
use Rattle.codeword_lines.specs.declared.request.Task.{Task}
use Rattle.codeword_lines.specs.declared.request.Task.TheVariants.{Encode, Correct}
use Rattle.codeword_lines.specs.Decimals.{Decimal, DecimalDigit}
use Rattle.hexadecimal.specs.Hex.{Hex}
use Rattle.codeword_lines.specs.Requests.{Asks, name}

-- no request at all
abbrev pub Nothing : List ℕ → Type 0
Nothing line = (k : Kind) (t : Task) (x : List ℕ) → Asks line k t x → ⊥

-- the names of the kinds are apart
behind : (j k : Kind) (x y : List ℕ) → name j ++ x ≡ name k ++ y → x ≡ y
behind Slot Slot x y e = cc
behind Slot Tmcc x y e = cc
behind Tmcc Slot x y e = cc
behind Tmcc Tmcc x y e = cc

-- two cuts behind decimal digits are one
one_cut : (d e x y : List ℕ) → ((k : ℕ) → k < length d → DecimalDigit (get_or d k 0)) → ((k : ℕ) → k < length e → DecimalDigit (get_or e k 0))
    → d ++ (32 ∷ x) ≡ e ++ (32 ∷ y) → x ≡ y
one_cut [] [] x y f g p = cc
one_cut [] (c ∷ e) x y f g p = let q : 32 ≡ c = cc in absurd (omega (arith, (g 0 (omega arith)).0))
one_cut (c ∷ d) [] x y f g p = let q : c ≡ 32 = cc in absurd (omega (arith, (f 0 (omega arith)).0))
one_cut (c ∷ d) (b ∷ e) x y f g p =
    let q : d ++ (32 ∷ x) ≡ e ++ (32 ∷ y) = cc in
    one_cut d e x y (λ k h. f (suc k) (omega arith)) (λ k h. g (suc k) (omega arith)) q

pub no_word : (line rest text : List ℕ) (j : Kind) (d0 x0 : List ℕ) → line ≡ 67 ∷ rest → rest ≡ name j ++ text
    → Decimal d0 → text ≡ d0 ++ (32 ∷ x0) → (Hex x0 → ⊥) → Nothing line
no_word line rest text j d0 x0 l m dec0 cut0 n k Encode x (e, h) = let z : ◌≡◌ {A = ℕ} 67 69 = cc in omega arith
no_word line rest text j d0 x0 l m dec0 cut0 n k (Correct b) x (d, e, dec, bound, h) =
    let same : d ++ (32 ∷ x) ≡ d0 ++ (32 ∷ x0)
    = behind k j (d ++ (32 ∷ x)) text (let q : name k ++ (d ++ (32 ∷ x)) ≡ rest = cc in q ∙ m) ∙ cut0 in
    n (subst (λ (v : List ℕ). Hex v) (one_cut d d0 x x0 dec.1 dec0.1 same) h)
