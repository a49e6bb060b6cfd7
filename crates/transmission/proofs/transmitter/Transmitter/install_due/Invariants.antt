use Rattle.std.proofs.Common.{take}
use Rattle.transmission.specs.Courses.{HearsOn}
use Rattle.transmission.specs.Plans.{OnAir, due}
use Rattle.transmission.specs.Transmissions.{Airs, Continues}
use Rattle.transmission.proofs.transmitter.Transmitter.install_due.Given as goal

abbrev pub invariant-loop-next : goal.invariant-loop-next
invariant-loop-next g l = record {
  state : (a : OnAir) → Airs l.initial.self.modulator a → Airs l.self.modulator (due l.number (take l.next-index l.installs) a);
  run : Continues l.initial.self.modulator l.self.modulator;
  course : HearsOn g.O.Outlet.sends g.O.Outlet.hears l.initial.outlet l.outlet;
}
