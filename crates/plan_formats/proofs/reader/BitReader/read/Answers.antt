use Rattle.std.proofs.Common.{◌≡◌, ℕ, ◌+◌, ◌*◌, ◌%◌, ◌^◌, ◌<◌, [], ◌∷◌, subst, arith}
use lib.Bits.{bit_or}
use Rattle.plan_formats.specs.Cursors.{Took}
use Rattle.plan_formats.proofs.Joins.{one_fits}
use Rattle.plan_formats.proofs.Reading.{took_zero, took_bit}
use Rattle.plan_formats.proofs.Steps.{shifted}
use Rattle.plan_formats.proofs.reader.BitReader.read.Goals as goal

pub loop-init : goal.loop-init
loop-init c = took_zero c.args.self.now

pub loop-preserved : goal.loop-preserved
loop-preserved c =
    let l = c.loop in
    let own = c.from.ensures in
    let small : c.from.result < 2 = omega (arith, own, one_fits 1 c.bit.result c.bit.ensures.run) in
    let value : bit_or ((l.value * 2) % 2 ^ 64) c.from.result ≡ l.value * 2 + c.from.result =
    shifted l.value l.counter c.from.result (one_fits l.counter l.value l.invariant.run) (omega arith) small in
    rw (value, own) (took_bit l.counter l.value c.bit.result l.invariant c.bit.ensures)

pub returns : goal.returns
returns c =
    let l = c.loop in
    let all : l.counter ≡ c.args.width = omega arith in
    let took = subst (λ (k : ℕ). Took c.args.self.now ((k, l.value) ∷ []) l.self) all l.invariant in
    record { took = took; bound = one_fits c.args.width l.value took.run }
