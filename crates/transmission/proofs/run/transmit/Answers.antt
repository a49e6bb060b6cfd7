use Rattle.transmission.proofs.Reaching.{made_on, begin, whole, lossless_run}
use Rattle.transmission.proofs.run.transmit.Goals as goal

pub returns : goal.returns
returns g c =
    let p = c.args.plan.now.fields in
    let installs = c.args.installs.now in
    let count = c.args.count in
    let m = c.in_ok-new.field-0.modulator in
    let last = c.send_all.new.self.modulator in
    let before = g.F.Feed.lists c.args.feed.now in
    let after = g.F.Feed.lists c.send_all.new.feed in
    let start = begin p installs m before c.in_ok-new.ensures.state (c.in_ok-new.ensures.run before) in
    let run = c.in_ok-send_all.ensures.reached p before start in
    let all = whole p installs count last before after run.0 run.1 in
    record {
      run = made_on c.tell_totals.result (λ hears. (run.0, all, hears c.args.outlet.now run.0 run.2)) c.tell_totals.ensures;
      whole = made_on c.tell_totals.result (λ hears. lossless_run p installs count before after run.0 all) c.tell_totals.ensures;
    }
