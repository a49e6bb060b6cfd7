use Rattle.std.proofs.Common.{ℕ, ◌≤◌, get_or, ◌∙◌, ap, arith, length-set}
use Rattle.pattern_feed.specs.Patterns.{pattern}
use Rattle.pattern_feed.proofs.Formed.{some_waits}
use Rattle.pattern_feed.proofs.Moved.{none, next_at, count_at, moved, still_within, still_short, next_within}
use Rattle.pattern_feed.proofs.feeds.PatternFeedFeed.take.Goals as goal

pub invariant_of-self : goal.invariant_of-self
invariant_of-self c =
    let f = c.args.self.now in
    let some = some_waits f c.args.stream (omega arith) in
    let before = get_or f.left c.args.stream none in
    let steps = c.next.ensures.steps in
    let ordered : before.start ≤ before.end =
    omega (arith, f.within c.args.stream, next_at f.left c.args.stream, count_at f.left c.args.stream) in
    record {
      streams = simp length-set f.streams;
      within = still_within f.left c.args.stream c.next.new.self some.within steps.0
          (next_within before c.next.new.self c.next.result ordered steps.0 steps.1) f.within;
      short = still_short f.left c.args.stream c.next.new.self some.within steps.0 f.short;
    }

pub unreachable-requires : goal.unreachable-requires
unreachable-requires c =
    let f = c.args.self.now in
    let some = some_waits f c.args.stream (omega arith) in
    omega (arith, some.below, next_at f.left c.args.stream, count_at f.left c.args.stream, c.in_default.ensures.steps.1.0)

pub returns-clause-took : goal.returns-clause-took
returns-clause-took c =
    let f = c.args.self.now in
    let some = some_waits f c.args.stream (omega arith) in
    let steps = c.in-Some.ensures.steps in
    moved f.left c.args.stream c.next.new.self some.within steps.0 c.args.to.now c.write_packet.new.to
    (omega (arith, steps.1.0))
    steps.1.2
    (c.write_packet.ensures ∙ ap (λ (n : ℕ). pattern c.args.stream n) steps.1.1)
