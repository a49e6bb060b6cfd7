use Rattle.std.proofs.Common.{◌∙◌, arith, length-set}
use Rattle.stored_feed.proofs.Formed.{some_waits}
use Rattle.stored_feed.proofs.Moved.{moved, still_counted}
use Rattle.stored_feed.proofs.feeds.StoredFeedFeed.take.Goals as goal

pub invariant_of-self : goal.invariant_of-self
invariant_of-self c =
    let f = c.args.self.now in
    let stream = some_waits f c.args.stream (omega arith) in
    record {
      streams = simp length-set f.streams;
      bytes = f.bytes;
      short = f.short;
      sound = f.sound;
      counted = still_counted f.file.now f.cursors c.args.stream c.in-Some.found (omega arith) c.in-Some.ensures.1 f.counted;
    }

pub returns-clause-took : goal.returns-clause-took
returns-clause-took c =
    let f = c.args.self.now in
    let stream = some_waits f c.args.stream (omega arith) in
    moved f.file.now f.cursors c.args.stream c.in-Some.found (omega arith) c.in-Some.ensures.1
    c.args.to.now c.copy_from_slice.new.self (c.copy_from_slice.ensures.after ∙ c.packet.ensures.value)
