use Rattle.std.proofs.Common.{◌≡◌, length}
use Rattle.stored_feed.proofs.Count.{Counted}
use Rattle.stored_feed.proofs.records.count.Given as goal

abbrev pub invariant-loop-stream : goal.invariant-loop-stream
invariant-loop-stream l = record { streams : length l.counts ≡ 8; so_far : Counted l.fn.file l.counts l.stream-index }
