-- A slot's words by its deinterleaved block. Assumes nothing.
use Rattle.std.proofs.Common.{◌≡◌, ℕ, ◌+◌, ◌*◌, ◌/◌, ◌%◌, List, get_or, ap, ◌∙◌, arith}
use Rattle.interleaver.specs.Blocks.{place, deinterleaved}
use Rattle.interleaver.proofs.Transposed.{get_or_transposed}
use Rattle.super_frame.specs.Parts.{Gathered}
use Rattle.super_frame.specs.Reads.{RowsPut, Taken}

pub taken_here :
    {X : Type 0} (rest first : X) (slots slot : ℕ) (stream block rows words : List X) → Gathered rest slots slot stream block →
    rows ≡ deinterleaved rest block → RowsPut rest first slots slot 8 rows words → Taken rest first slots stream words slot
taken_here {X} rest first slots slot stream block rows words gathered back put =
    record {
      begins = put.begins;
      row = λ frame c hf hc.
          let j = 203 * frame + c in
          let k = 8 * c + frame in
          let from : place 203 8 j ≡ 203 * (k / 203) + k % 203 = omega arith in
          put.row frame c hf hc
          ∙ (ap (λ (xs : List X). get_or xs j rest) back
          ∙ (get_or_transposed 203 8 rest block j rest (omega arith)
          ∙ (ap (λ (m : ℕ). get_or block m rest) from ∙ gathered.rows (k / 203) (k % 203) (omega arith) (omega arith))));
    }
