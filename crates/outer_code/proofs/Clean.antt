-- A word that is a codeword is corrected to itself, or not at all.
-- Assumes nothing.
use Rattle.std.proofs.Common.{◌≡◌, ℕ, ◌≤◌, List, length, get_or, refl, sym, subst, arith}
use Rattle.code_theory.specs.Codeword.{Bytes, Codeword}
use Rattle.code_theory.proofs.Differences.{distance_same}
use Rattle.code_theory.proofs.Distances.{one_near}
use Rattle.outer_code.specs.Words.{Near, NoneNear, Corrected}

-- whatever is near a codeword is that codeword
only_itself : (P : ℕ → Type 0) (bound : ℕ) (w c : List ℕ) → length w ≤ 255 → bound ≤ 8 → Bytes w → Codeword w → Near P bound w c → c ≡ w
only_itself P bound w c short small f h n =
    one_near bound small w c w n.bytes f (sym n.size) refl short n.codeword h n.close (omega (arith, distance_same w))

module _ (P : ℕ → Type 0) (bound : ℕ) (w : List ℕ) (short : length w ≤ 255) (small : bound ≤ 8) (f : Bytes w) (h : Codeword w) where
  pub clean : P (get_or w 0 0) → Corrected P bound w w
  clean first = record {
    near = record { size = refl; bytes = f; codeword = h; close = omega (arith, distance_same w); first = first };
    only = λ c n. only_itself P bound w c short small f h n;
  }

  pub not_clean : (P (get_or w 0 0) → ⊥) → NoneNear P bound w
  not_clean refused c n = refused (subst (λ (v : List ℕ). P (get_or v 0 0)) (only_itself P bound w c short small f h n) n.first)
