use Rattle.std.proofs.Common.{Ok, arith}
use Rattle.modulator.specs.States.{Load}
use Rattle.modulator.specs.declared.state.Loaded.{Loaded}
use Rattle.modulator.proofs.Lossless.{load_begins}
use Rattle.modulator.proofs.state.Bare.load.Goals as goal

pub returns : goal.returns
returns c =
    let p = c.args.plan.now.fields in
    let m : Loaded = record { order = c.first.result; kept = c.new.result } in
    let done : Load c.args.self p (Ok m) = (omega arith, record { order_is = c.first.ensures; plan_is = c.new.ensures }) in
    record { load = done; run = load_begins c.args.self p (Ok m) done }
