use Rattle.std.proofs.Common.{◌≡◌, ℕ, List, ◌++◌, length, take, drop}
use Rattle.std.specs.Str.Iter.{split_text, split_has_more, split_pattern}
use Rattle.modulate_job.specs.Packets.{Counts}
use Rattle.modulate_job.proofs.Commas.{Left}
use Rattle.modulate_job.proofs.counts.counts.Given as goal

-- the counts so far stand before what is left, and what the text states that states from there on
abbrev pub invariant-loop-count : goal.invariant-loop-count
invariant-loop-count l = record {
  comma : split_pattern l.words ≡ 44;
  eight : length l.count-items ≡ 8;
  on : (ns : List ℕ) → Left (split_has_more l.words) (split_text l.words) ns → Counts l.text (take l.count-index l.count-items ++ ns);
  back : (ns : List ℕ) → length ns ≡ 8 → Counts l.text ns → Left (split_has_more l.words) (split_text l.words) (drop l.count-index ns);
}
