use Rattle.std.proofs.Common.{◌≡◌, ℕ, ◌-◌, ◌+◌, [], subst, arith}
use Rattle.transmission.specs.Courses.{none}
use Rattle.transmission.specs.Plans.{due}
use Rattle.transmission.specs.Transmissions.{Airs}
use Rattle.transmission.proofs.Reaching.{Reaches, reach_more, stays, goes_more}
use Rattle.transmission.proofs.transmitter.Transmitter.send_all.Goals as goal

pub loop-number-init : goal.loop-number-init
loop-number-init g c = record {
  within = omega arith;
  reached = λ p start r. ([], r, none);
  goes_on = stays c.args.self.now.modulator c.args.self.now.modulator (λ start waiting sent run. run) (g.F.Feed.lists c.args.feed.now);
}

pub loop-number-preserved : goal.loop-number-preserved
loop-number-preserved g c =
    let n = c.loop-number.number in
    let k = n + 1 - 1 in
    let first = c.args.self.now.modulator in
    let m = c.loop-number.self.modulator in
    let next = c.install_due.new.self.modulator in
    let last = c.send.new.self.modulator in
    let held = g.F.Feed.lists c.args.feed.now in
    let waiting = g.F.Feed.lists c.loop-number.feed in
    let after = g.F.Feed.lists c.send.new.feed in
    let due_now = c.in_ok-install_due.ensures in
    let filled = c.in_ok-send.ensures in
    let place : n - 1 + 1 ≡ k = omega (arith, c.loop-number.auto.number) in
    let now : n ≡ k = omega arith in
    record {
      within = omega arith;
      reached = reach_more g.O.Outlet.sends g.O.Outlet.hears c.args.installs.now first held c.args.outlet.now (n - 1) k m next last waiting after
          c.loop-number.outlet c.install_due.new.outlet c.send.new.outlet filled.fills.0 place c.loop-number.invariant.reached
          (λ a airs. subst (λ (j : ℕ). Airs next (due j c.args.installs.now a)) now (due_now.state a airs)) due_now.run due_now.course
          filled.fills.1 filled.fills.2 filled.kept;
      goes_on = goes_more (n - 1) k first m next last held waiting after place c.loop-number.invariant.goes_on due_now.run filled.goes_on filled.kept;
    }

pub returns-in_ok-send-clause-reached : goal.returns-in_ok-send-clause-reached
returns-in_ok-send-clause-reached g c =
    let n = c.loop-number.number in
    let k = c.args.count in
    let first = c.args.self.now.modulator in
    let m = c.loop-number.self.modulator in
    let next = c.install_due.new.self.modulator in
    let last = c.send.new.self.modulator in
    let held = g.F.Feed.lists c.args.feed.now in
    let waiting = g.F.Feed.lists c.loop-number.feed in
    let after = g.F.Feed.lists c.send.new.feed in
    let due_now = c.in_ok-install_due.ensures in
    let filled = c.in_ok-send.ensures in
    let place : n - 1 + 1 ≡ k = omega (arith, c.loop-number.auto.number) in
    let now : n ≡ k = omega arith in
    reach_more g.O.Outlet.sends g.O.Outlet.hears c.args.installs.now first held c.args.outlet.now (n - 1) k m next last waiting after
    c.loop-number.outlet c.install_due.new.outlet c.send.new.outlet filled.fills.0 place c.loop-number.invariant.reached
    (λ a airs. subst (λ (j : ℕ). Airs next (due j c.args.installs.now a)) now (due_now.state a airs)) due_now.run due_now.course
    filled.fills.1 filled.fills.2 filled.kept

pub returns-in_ok-send-clause-goes_on : goal.returns-in_ok-send-clause-goes_on
returns-in_ok-send-clause-goes_on g c =
    let n = c.loop-number.number in
    let place : n - 1 + 1 ≡ c.args.count = omega (arith, c.loop-number.auto.number) in
    goes_more (n - 1) c.args.count c.args.self.now.modulator c.loop-number.self.modulator c.install_due.new.self.modulator c.send.new.self.modulator
    (g.F.Feed.lists c.args.feed.now) (g.F.Feed.lists c.loop-number.feed) (g.F.Feed.lists c.send.new.feed) place
    c.loop-number.invariant.goes_on c.in_ok-install_due.ensures.run c.in_ok-send.ensures.goes_on c.in_ok-send.ensures.kept

pub returns-clause-reached : goal.returns-clause-reached
returns-clause-reached g c =
    let m = c.loop-number.self.modulator in
    let after = g.F.Feed.lists c.loop-number.feed in
    let all : c.loop-number.number - 1 ≡ c.args.count = omega (arith, c.loop-number.invariant.within) in
    subst
    (λ (n : ℕ). Reaches g.O.Outlet.sends g.O.Outlet.hears c.args.installs.now c.args.self.now.modulator (g.F.Feed.lists c.args.feed.now) c.args.outlet.now
    n m after c.loop-number.outlet)
    all c.loop-number.invariant.reached
