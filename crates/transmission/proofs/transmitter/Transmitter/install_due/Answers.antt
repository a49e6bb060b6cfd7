use Rattle.std.proofs.Common.{◌+◌, take, sym, ap, subst}
use Rattle.transmission.specs.Courses.{HearsOn, told}
use Rattle.transmission.specs.Plans.{OnAir, due}
use Rattle.transmission.specs.Transmissions.{Airs, Continues}
use Rattle.transmission.proofs.Reaching.{due_none, install_made, install_passed}
use Rattle.modulator.specs.declared.state.Loaded.{Loaded}
use Rattle.transmission.specs.declared.transmitter.Transmitter.{Transmitter}
use Rattle.transmission.proofs.transmitter.Transmitter.install_due.Goals as goal
use Rattle.transmission.proofs.transmitter.Transmitter.install_due.Goals.{then-next-number+in_ok-tell, else-next-number}

pub loop-next-init : goal.loop-next-init
loop-next-init g c = record {
  state = λ a airs. subst (λ (b : OnAir). Airs c.args.self.now.modulator b) (sym (due_none c.args.number c.args.installs.now a)) airs;
  run = λ start waiting sent run. run;
  course = λ start frames course. course;
}

pub loop-next-preserved : goal.loop-next-preserved
loop-next-preserved g c =
    let number = c.args.number in
    let all = c.args.installs.now in
    let index = c.loop-next.next-index in
    let next = c.next-item.result in
    let first = c.args.self.now.modulator in
    let m = c.loop-next.self.modulator in
    let inv = c.loop-next.invariant in
    let again : Loaded → Type 0 = λ last. ((a : OnAir) → Airs first a → Airs last (due number (take (index + 1) all) a)) × Continues first last in
    let hears : g.row.O.Denot → Type 0 = λ o. HearsOn g.O.Outlet.sends g.O.Outlet.hears c.args.outlet.now o in
    elim c.if-next-number.branch [
      | then-next-number+in_ok-tell w ↦
          let last = w.install.new.self.modulator in
          let state = subst again (sym (ap (λ (t : Transmitter). t.modulator) w.self-is)) (
            install_made number all index next first m c.loop-next-test.true c.next-item.is inv.state last w.if-next-number.true w.install.ensures.state,
            λ start waiting sent run. w.install.ensures.run start waiting sent (inv.run start waiting sent run),
          ) in record {
            state = state.0;
            run = state.1;
            course = subst hears (sym w.outlet-is) (λ start frames before. told w.install.result (inv.course start frames before) w.in_ok-tell.ensures);
          }
      | else-next-number w ↦
          let state = subst again (sym (ap (λ (t : Transmitter). t.modulator) w.self-is)) (
            install_passed number all index next first m c.loop-next-test.true c.next-item.is inv.state w.if-next-number.false,
            inv.run,
          ) in record { state = state.0; run = state.1; course = subst hears (sym w.outlet-is) inv.course }
    ]
