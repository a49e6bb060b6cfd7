use Rattle.std.proofs.Common.{Ok, Err, refl, arith}
use Rattle.modulator.specs.States.{Install}
use Rattle.modulator.specs.declared.fault.ModulatorFault.TheVariants.{Frame}
use Rattle.modulator.specs.declared.state.Loaded.{Loaded}
use Rattle.modulator.proofs.Lossless.{install_continues}
use Rattle.modulator.proofs.state.Loaded.install.Goals as goal

pub returns-then-slots : goal.returns-then-slots
returns-then-slots c =
    let p = c.args.plan.now.fields in
    let m = c.args.self.now in
    let done : Install m p (Err Frame) m = (λ same. omega (arith, same), refl, refl) in
    record { install = done; run = install_continues m p (Err Frame) m done }

pub returns : goal.returns
returns c =
    let p = c.args.plan.now.fields in
    let m = c.args.self.now in
    let after : Loaded = record { order = c.next-self.result; kept = c.new-self.result } in
    let done : Install m p (Ok tt) after = (omega arith, record { order_is = c.next-self.ensures; plan_is = c.new-self.ensures }) in
    record { install = done; run = install_continues m p (Ok tt) after done }
