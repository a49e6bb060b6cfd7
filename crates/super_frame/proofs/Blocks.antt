-- A slot's block interleaved between gathering and putting back. Assumes nothing.
use Rattle.std.proofs.Common.{◌≡◌, ℕ, ◌+◌, ◌*◌, ◌/◌, ◌%◌, List, get_or, Ok, Err, Result, sym, ap, ◌∙◌, arith}
use Rattle.interleaver.specs.Blocks.{interleaved}
use Rattle.interleaver.specs.Calls.{Blocks, Moved}
use Rattle.interleaver.proofs.Transposed.{get_or_transposed}
use Rattle.super_frame.specs.Parts.{Gathered, InterleavedSlot}

-- a call on blocks is never refused
pub moved_ok :
    {X E : Type 0} (becomes : X → List X → List X) (rest : X) (source target after : List X) (answer : Result (Unit {0}) E) →
    Blocks source target → Moved becomes rest source target answer after → after ≡ becomes rest source
moved_ok becomes rest source target after (Ok _) blocks moved = moved.1
moved_ok becomes rest source target after (Err _) blocks moved = absurd (moved.0 blocks)

pub interleaved_here :
    (slots slot : ℕ) (before block sent after : List ℕ) → Gathered 0 slots slot before block → sent ≡ interleaved 0 block →
    Gathered 0 slots slot after sent → InterleavedSlot slots before after slot
interleaved_here slots slot before block sent after rows turned back frame c hf hc =
    let k = 203 * frame + c in
    sym (back.rows frame c hf hc)
    ∙ (ap (λ (xs : List ℕ). get_or xs k 0) turned
    ∙ (get_or_transposed 8 203 0 block k 0 (omega arith) ∙ rows.rows (k % 8) (k / 8) (omega arith) (omega arith)))
