use Rattle.stored_feed.proofs.Formed.{pending_formed}
use Rattle.stored_feed.proofs.feeds.StoredFeedFeed.waiting.Goals as goal

pub returns-clause-formed : goal.returns-clause-formed
returns-clause-formed c = pending_formed c.args.self.now
