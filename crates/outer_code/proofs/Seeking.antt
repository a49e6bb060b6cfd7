-- From the errors that were found, or not, to the codeword that was sought.
-- Assumes nothing.
use Rattle.std.proofs.Common.{◌≡◌, ℕ, ◌≤◌, List, length, get_or, sym, refl, ◌∙◌, subst, arith}
use Rattle.code_theory.specs.Codeword.{Bytes}
use Rattle.code_theory.specs.Sequences.{Values}
use Rattle.parity.specs.Remainder.{bytes_of, Remainder, Syndromes}
use Rattle.locator.specs.Errors.{corrected, Corrects, NothingNear}
use Rattle.locator.specs.Errors as located
use Rattle.locator.proofs.Correcting.{corrected_bytes, corrected_close, corrected_length}
use Rattle.outer_code.specs.Words.{Near, NoneNear, Corrected}

module _ (P : ℕ → Type 0) (bound : ℕ) (small : bound ≤ 8) (w : List ℕ) (short : length w ≤ 255) (f : Bytes w) (rest : ℕ) (r : Remainder w rest)
    (s : List ℕ) (h : Syndromes (bytes_of 16 rest) s) where
  values : Values s w
  values k l = h.at k (omega (arith, h.size)) ∙ r.same k (omega (arith, h.size))

  near_found : (c : List ℕ) → Near P bound w c → located.Near s (length w) bound w c
  near_found c n =
      record {
        word_length = refl;
        codeword_length = n.size;
        word_bytes = f;
        codeword_bytes = n.bytes;
        values = values;
        codeword = n.codeword;
        close = n.close;
      }

  pub none_found : NothingNear s (length w) bound → NoneNear P bound w
  none_found none c n = none short small w c (near_found c n)

  module _ (count : ℕ) (places errors : List ℕ) (e : Corrects s (length w) bound count places errors) where
    leads : (c : List ℕ) → Near P bound w c → corrected count places errors w ≡ c
    leads c n = e.leads short small w c (near_found c n)

    pub not_permitted : (P (get_or (corrected count places errors w) 0 0) → ⊥) → NoneNear P bound w
    not_permitted refused c n = refused (subst (λ (v : List ℕ). P (get_or v 0 0)) (sym (leads c n)) n.first)

    pub found : P (get_or (corrected count places errors w) 0 0) → Corrected P bound w (corrected count places errors w)
    found first =
        record {
          near = record {
            size = corrected_length count places errors w;
            bytes = corrected_bytes count places errors w f e.bytes;
            codeword = e.codeword short w refl f values;
            close = omega (arith, corrected_close count places errors w, e.room);
            first = first;
          };
          only = λ c n. sym (leads c n);
        }
