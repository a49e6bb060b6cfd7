use Rattle.std.proofs.Common.{◌-◌, ◌+◌, ◌≤◌}
use Rattle.transmission.specs.Transmissions.{GoesOn}
use Rattle.transmission.proofs.Reaching.{Reaches}
use Rattle.transmission.proofs.transmitter.Transmitter.send_all.Given as goal

-- what was sent before this number
abbrev pub invariant-loop-number : goal.invariant-loop-number
invariant-loop-number g l = record {
  within : l.number ≤ l.count + 1;
  reached : Reaches g.O.Outlet.sends g.O.Outlet.hears l.installs l.initial.self.modulator (g.F.Feed.lists l.initial.feed) l.initial.outlet
      (l.number - 1) l.self.modulator (g.F.Feed.lists l.feed) l.outlet;
  goes_on : GoesOn (l.number - 1) l.initial.self.modulator (g.F.Feed.lists l.initial.feed) l.self.modulator (g.F.Feed.lists l.feed);
}
