-- Data with their check bytes behind them are the only codeword that has these data.
-- Assumes nothing.
use Rattle.std.proofs.Common.{◌≡◌, ℕ, ◌+◌, ◌-◌, List, ◌++◌, length, take, drop, Ok, Err, Result, sym, ap, ◌∙◌, subst, arith, length-append, length-drop, take-append-drop, length-take-le, get_or-drop, take_at}
use Rattle.code_theory.specs.Codeword.{Bytes, Codeword}
use Rattle.parity.specs.Remainder.{Checks}
use Rattle.outer_code.specs.Calls.{Encoded, DataEncoded}
use Rattle.outer_code.specs.Words.{Coded}
use Rattle.outer_code.specs.declared.fault.CodeFault.{CodeFault}

bytes_drop : (n : ℕ) (w : List ℕ) → Bytes w → Bytes (drop n w)
bytes_drop n w f k = rw (get_or-drop n w k 0) (f (n + k))

-- a list by its front and the rest
halves : (n : ℕ) (c u : List ℕ) → take n c ≡ u → c ≡ u ++ drop n c
halves n c u e = sym (take-append-drop n c) ∙ ap (λ (v : List ℕ). v ++ drop n c) e

pub coded : (n : ℕ) (w checks after : List ℕ) → length w ≡ n + 16 → Bytes after → Checks (take n w) checks
    → after ≡ take n w ++ checks → Coded n w after
coded n w checks after l f ok is =
    let front : length (take n w) ≡ n = length-take-le n w (omega arith) in
    record {
      size = ap length is ∙ length-append (take n w) checks ∙ omega (arith, ok.size);
      bytes = f;
      kept = ap (take n) is ∙ take_at (take n w) checks n front;
      codeword = subst (λ (v : List ℕ). Codeword v) (sym is) ok.codeword;
      only = λ c m g e h.
          let split : c ≡ take n w ++ drop n c = halves n c (take n w) e in
          let rest : drop n c ≡ checks =
          ok.only (drop n c) (length-drop n c ∙ omega arith) (bytes_drop n c g) (subst (λ (v : List ℕ). Codeword v) split h) in
          split ∙ ap (λ (v : List ℕ). take n w ++ v) rest ∙ sym is;
    }

-- a word in which data stand first, and which is then coded, is the one codeword of the data
pub data_coded :
    (size message : ℕ) (content w begun : List ℕ) (answer : Result (Unit {0}) CodeFault) (after : List ℕ) → size ≡ message + 16 → length content ≡ message →
    length w ≡ size → length begun ≡ size → take message begun ≡ content → Encoded size message begun answer after → DataEncoded size message content w answer after
data_coded size message content w begun (Ok _) after checks few room long begins e =
    let short : size - 16 ≡ message = omega arith in (
      (few, room),
      record {
        size_is = e.1.size ∙ long;
        bytes = e.1.bytes;
        front = ap (λ (n : ℕ). take n after) short ∙ e.1.kept ∙ begins;
        codeword = e.1.codeword;
      },
      λ other is.
          e.1.only other (is.size_is ∙ sym long) is.bytes (ap (λ (n : ℕ). take n other) (sym short) ∙ is.front ∙ sym begins) is.codeword,
    )
data_coded size message content w begun (Err f) after checks few room long begins e = absurd (e.0 long)
