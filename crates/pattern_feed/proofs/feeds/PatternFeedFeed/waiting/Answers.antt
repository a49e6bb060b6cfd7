use Rattle.std.proofs.Common.{◌≡◌, ◌-◌, ◌≤◌, length, get_or, arith, rules}
use Rattle.pattern_feed.specs.Pending.{pending}
use Rattle.pattern_feed.specs.Numbers.{next_of, counts_of}
use Rattle.pattern_feed.proofs.Formed.{pending_formed}
use Rattle.pattern_feed.proofs.Moved.{none, next_at, count_at}
use Rattle.pattern_feed.proofs.Run.{patterns_length}
use Rattle.pattern_feed.proofs.feeds.PatternFeedFeed.waiting.Goals as goal

pub map_or-requires : goal.map_or-requires
map_or-requires c =
    let f = c.args.self.now in
    let ordered : (get_or f.left c.args.stream none).start ≤ (get_or f.left c.args.stream none).end =
    omega (arith, f.within c.args.stream, next_at f.left c.args.stream, count_at f.left c.args.stream) in
    search rules

pub returns-clause-count : goal.returns-clause-count
returns-clause-count c =
    let f = c.args.self.now in
    let many : (get_or f.left c.args.stream none).end - (get_or f.left c.args.stream none).start ≡ length (pending f c.args.stream) =
    omega (
      arith,
      patterns_length c.args.stream (get_or (next_of f.left) c.args.stream 0) (get_or (counts_of f.left) c.args.stream 0),
      next_at f.left c.args.stream,
      count_at f.left c.args.stream,
    ) in
    search rules

pub returns-clause-formed : goal.returns-clause-formed
returns-clause-formed c = pending_formed c.args.self.now
