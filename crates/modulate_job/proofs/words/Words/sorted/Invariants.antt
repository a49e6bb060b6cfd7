use Rattle.std.proofs.Common.{map, take, vec_items, string_bytes}
use Rattle.modulate_job.specs.Flags.{Sorted}
use Rattle.modulate_job.proofs.words.Words.sorted.Given as goal

abbrev pub invariant-loop-word : goal.invariant-loop-word
invariant-loop-word l = Sorted (take l.word-index (map string_bytes l.words)) (map string_bytes (vec_items l.asked)) l.progress
