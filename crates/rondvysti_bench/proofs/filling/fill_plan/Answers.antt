use Rattle.std.proofs.Common.{rules, refl, inl, arith}
use Rattle.modulator.specs.Fills.{Has}
use Rattle.stored_feed.specs.Pending.{pending}
use Rattle.rondvysti_bench.proofs.filling.fill_plan.Goals as goal

pub returns : goal.returns
returns c =
    let opened = c.in_ok-feed.ensures in
    let loaded : Has c.in_ok-loaded.loaded 0 c.args.plan.now.fields = search rules in
    let filled = c.in_ok-fill.ensures.fill in
    inl (
      refl,
      opened.0,
      omega (arith, filled.0, loaded.plan_is.frame),
      record {
        modulator = c.in_ok-loaded.loaded;
        loaded = loaded;
        lists = pending c.in_ok-feed.feed;
        waited = opened.1;
        sent = filled.1.0;
        rest = pending c.fill.new.feed;
        filled = filled.1.1;
      },
    )
