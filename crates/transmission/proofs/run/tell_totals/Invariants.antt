use Rattle.transmission.specs.Courses.{HearsOn}
use Rattle.transmission.proofs.run.tell_totals.Given as goal

abbrev pub invariant-loop-stream : goal.invariant-loop-stream
invariant-loop-stream g l = HearsOn g.O.Outlet.sends g.O.Outlet.hears l.initial.outlet l.outlet
