use Rattle.transmission.specs.Courses.{sent, told}
use Rattle.transmission.proofs.Reaching.{made_on, fills_on}
use Rattle.transmission.proofs.transmitter.Transmitter.send.Goals as goal

pub returns-clause-fills : goal.returns-clause-fills
returns-clause-fills g c =
    let m = c.args.self.now.modulator in
    let before = g.F.Feed.lists c.args.feed.now in
    let after = g.F.Feed.lists c.fill.new.feed in
    let out = c.fill.new.out in
    made_on c.tell.result
    (λ heard. (
      out,
      fills_on m before after c.in-Ok.tally out c.in-Ok.ensures.run,
      λ start frames past. told c.filled.result (sent out past c.in_ok-send.ensures) heard,
    ))
    c.tell.ensures
