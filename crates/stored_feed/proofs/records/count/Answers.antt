use Rattle.std.proofs.Common.{List, length, sym, ap, arith, length-set, rules}
use Rattle.feed.specs.Packets.{Packet}
use Rattle.stored_feed.specs.declared.fault.PacketFileFault.TheVariants.{Length, Record}
use Rattle.stored_feed.proofs.Chunks.{record_stream}
use Rattle.stored_feed.proofs.Count.{count_below, counted_more}
use Rattle.stored_feed.proofs.Scan.{from_end}
use Rattle.stored_feed.proofs.records.count.Goals as goal

pub bounds-counts-stream : goal.bounds-counts-stream
bounds-counts-stream c =
    let file = c.args.file.now in
    let i = c.loop-stream.stream-index in
    omega (
      arith,
      record_stream file c.as_chunks.result.0.now c.as_chunks.ensures.front i (omega (arith, c.as_chunks.ensures.front_len)),
      (c.requires Record i (omega (arith, c.as_chunks.ensures.front_len))).0,
    )

pub overflow_add-counts : goal.overflow_add-counts
overflow_add-counts c =
    let file = c.args.file.now in
    let i = c.loop-stream.stream-index in
    let chunks = c.as_chunks.result.0.now in
    let is = record_stream file chunks c.as_chunks.ensures.front i (omega (arith, c.as_chunks.ensures.front_len)) in
    let below = count_below file c.loop-stream.counts i _ (omega (arith, c.as_chunks.ensures.front_len)) (sym is) c.loop-stream.invariant.so_far (c.requires Length).1 in
    search rules

pub bounds-counts-stream-in-loop-stream : goal.bounds-counts-stream-in-loop-stream
bounds-counts-stream-in-loop-stream c =
    let file = c.args.file.now in
    let i = c.loop-stream.stream-index in
    omega (
      arith,
      record_stream file c.as_chunks.result.0.now c.as_chunks.ensures.front i (omega (arith, c.as_chunks.ensures.front_len)),
      (c.requires Record i (omega (arith, c.as_chunks.ensures.front_len))).0,
    )

pub loop-stream-preserved : goal.loop-stream-preserved
loop-stream-preserved c =
    let file = c.args.file.now in
    let i = c.loop-stream.stream-index in
    let chunks = c.as_chunks.result.0.now in
    let is = record_stream file chunks c.as_chunks.ensures.front i (omega (arith, c.as_chunks.ensures.front_len)) in
    record {
      streams = simp length-set c.loop-stream.invariant.streams;
      so_far = counted_more file c.loop-stream.counts i _ (omega (arith, c.as_chunks.ensures.front_len)) (sym is) c.loop-stream.invariant.so_far
          (omega (arith, is, c.loop-stream.invariant.streams, (c.requires Record i (omega (arith, c.as_chunks.ensures.front_len))).0));
    }

pub returns-clause-counted : goal.returns-clause-counted
returns-clause-counted c = λ r.
    omega (
      arith,
      c.loop-stream.invariant.so_far r,
      c.as_chunks.ensures.front_len,
      ap (λ (ps : List Packet). length ps) (from_end c.args.file.now r c.loop-stream.stream-index (omega (arith, c.as_chunks.ensures.front_len))),
    )
