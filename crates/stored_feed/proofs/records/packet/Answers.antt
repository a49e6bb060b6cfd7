use Rattle.stored_feed.proofs.Chunks.{record_packet}
use Rattle.stored_feed.proofs.records.packet.Goals as goal

pub returns-clause-value : goal.returns-clause-value
returns-clause-value c = record_packet c.args.file.now c.as_chunks.result.0.now c.as_chunks.ensures.front c.args.i c.requires
