use Rattle.std.proofs.Common.{◌≡◌, ℕ, ◌*◌, ◌+◌, ◌<◌, ◌≤◌, List, [], map, length, get_or, drop, vec_items, string_bytes, Bor}
use Rattle.std.specs.Slice.Iter.{chunks_rest, chunks_size}
use Rattle.modulate_job.specs.Jobs.{AsksChange}
use Rattle.run_inputs.specs.declared.change.Change.{Change}
use Rattle.modulate_job.proofs.pairs.pairs.Given as goal

-- each two words before those that are left are a change
abbrev pub invariant-loop-pair : goal.invariant-loop-pair
invariant-loop-pair l = record {
  two : chunks_size l.pair-iterator ≡ 2;
  within : 2 * length (vec_items l.changes) ≤ length l.words;
  left : chunks_rest l.pair-iterator ≡ drop (2 * length (vec_items l.changes)) l.words;
  each : (j : ℕ) (none : Change (Bor (List ℕ))) → j < length (vec_items l.changes) →
      AsksChange (get_or (map string_bytes l.words) (2 * j) []) (get_or (map string_bytes l.words) (2 * j + 1) []) (get_or (vec_items l.changes) j none);
}
