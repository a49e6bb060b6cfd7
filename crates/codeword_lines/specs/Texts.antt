-- The text of an answer. Assumes nothing.
use Rattle.std.specs.Prelude.{ℕ, List, ◌++◌, vec_items, codes, decimal}
use Rattle.codeword_lines.specs.declared.answer.Answer.{Answer}
use Rattle.codeword_lines.specs.declared.answer.Answer.TheVariants.{Word, Refusal, Unknown}
use Rattle.codeword_lines.specs.Requests.{refusal_number}
use Rattle.hexadecimal.specs.Hex.{hexed}

-- the bytes of a codeword in hexadecimal digits; REFUSED and the number of a refusal; a question mark for what is no request
abbrev pub answer_text : Answer → List ℕ
answer_text (Word v) = hexed (vec_items v)
answer_text (Refusal kind fault) = codes "REFUSED " ++ decimal (refusal_number kind fault)
answer_text Unknown = codes "?"
