-- Answers to requests. Assumes nothing.
use Rattle.std.specs.Prelude.{◌≡◌, ℕ, ◌≤◌, ◌⊎◌, List, length, take, vec_items, ◌≢◌, Result, Ok, Err}
use Rattle.std.specs.Global.{Vec}
use Rattle.code_theory.specs.Codeword.{Codeword}
use Rattle.outer_code.specs.Calls.{Refused}
use Rattle.outer_code.specs.Kinds.{Any, Sync}
use Rattle.outer_code.specs.Words.{Corrected}
use Rattle.outer_code.specs.declared.fault.CodeFault.{CodeFault}
use Rattle.outer_code.specs.declared.fault.CodeFault.TheVariants.{Length}
use Rattle.codeword_lines.specs.declared.answer.Answer.{Answer}
use Rattle.codeword_lines.specs.declared.answer.Answer.TheVariants.{Word, Refusal, Unknown}
use Rattle.codeword_lines.specs.declared.request.Kind.{Kind}
use Rattle.codeword_lines.specs.declared.request.Kind.TheVariants.{Slot, Tmcc}
use Rattle.codeword_lines.specs.declared.request.Task.{Task}
use Rattle.codeword_lines.specs.declared.request.Task.TheVariants.{Encode, Correct}
use Rattle.codeword_lines.specs.Requests.{Asks}
use Rattle.hexadecimal.specs.Hex.{unhexed}

-- bytes to be coded: the codeword that begins with them, or a refusal exactly if they are not as many as the data of their kind
abbrev pub EncodedAs : ℕ → ℕ → List ℕ → Result (Vec ℕ) CodeFault → Type 0
EncodedAs size message bytes (Ok v) =
    (length bytes ≡ message) × (length (vec_items v) ≡ size) × (take message (vec_items v) ≡ bytes) × Codeword (vec_items v)
EncodedAs size message bytes (Err e) = (length bytes ≢ message) × (e ≡ Length)

-- bytes to be corrected: the one codeword within the bound, or the refusal
abbrev pub CorrectedAs : ℕ → (ℕ → Type 0) → ℕ → List ℕ → Result (Vec ℕ) CodeFault → Type 0
CorrectedAs size permitted bound w (Ok v) = (length w ≡ size) × (bound ≤ 8) × Corrected permitted bound w (vec_items v)
CorrectedAs size permitted bound w (Err e) = Refused size permitted bound w e

-- either task at a kind of word
abbrev pub DoneAs : ℕ → ℕ → (ℕ → Type 0) → Task → List ℕ → Result (Vec ℕ) CodeFault → Type 0
DoneAs size message permitted Encode bytes r = EncodedAs size message bytes r
DoneAs size message permitted (Correct bound) bytes r = CorrectedAs size permitted bound bytes r

-- either task at the kind of word that a line names
abbrev pub Outcome : Kind → Task → List ℕ → Result (Vec ℕ) CodeFault → Type 0
Outcome Slot task bytes r = DoneAs 204 188 Sync task bytes r
Outcome Tmcc task bytes r = DoneAs 64 48 Any task bytes r

-- the answer to a request
abbrev pub Done : Kind → Task → List ℕ → Answer → Type 0
Done kind task bytes (Word v) = Outcome kind task bytes (Ok v)
Done kind task bytes (Refusal k e) = (k ≡ kind) × Outcome kind task bytes (Err e)
Done kind task bytes Unknown = ⊥

-- the line is a request and the answer is its own, or it is none and is not known
abbrev pub Answered : List ℕ → Answer → Type 0
Answered line a =
    ((kind : Kind) × (task : Task) × (text : List ℕ) × Asks line kind task text × Done kind task (unhexed text) a)
    ⊎ (((kind : Kind) (task : Task) (text : List ℕ) → Asks line kind task text → ⊥) × (a ≡ Unknown))
