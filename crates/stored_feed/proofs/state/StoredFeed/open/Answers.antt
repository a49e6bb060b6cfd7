use Rattle.std.proofs.Common.{sym, ◌∙◌, arith, rules}
use Rattle.stored_feed.specs.declared.fault.PacketFileFault.TheVariants.{Length, Record}
use Rattle.stored_feed.proofs.Begun.{Begun, begun_counted}
use Rattle.stored_feed.proofs.Moved.{start}
use Rattle.stored_feed.proofs.state.StoredFeed.open.Goals as goal

begun : (c : goal.After-map) → Begun c.count.result c.map.result
begun c =
    record {
      long = c.map.ensures.items.long ∙ sym c.count.ensures.streams;
      each = λ i within.
          let made = c.map.ensures.items.at i 0 start (omega (arith, within, c.count.ensures.streams)) in
          search rules;
    }

pub invariant_of-result : goal.invariant_of-result
invariant_of-result c =
    record {
      streams = c.map.ensures.items.long;
      bytes = λ k. omega (arith, c.type_inv.file k);
      short = (c.in_ok-check.ensures Length).1;
      sound = c.in_ok-check.ensures Record;
      counted = begun_counted c.count.result c.map.result (begun c) c.args.file.now c.count.ensures.counted;
    }
