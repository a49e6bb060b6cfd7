use Rattle.std.proofs.Common.{◌≡◌, ◌-◌, ◌/◌, ◌^◌, arith}
use Rattle.plan_formats.proofs.Steps.{lowest_bit, shift_out}
use Rattle.plan_formats.proofs.Writing.{wrote_zero, wrote_shift}
use Rattle.plan_formats.proofs.writer.BitWriter.write.Goals as goal

pub loop-at-init : goal.loop-at-init
loop-at-init c =
    let none : c.args.width - c.args.width ≡ 0 = omega arith in
    let out = shift_out c.args.value c.args.width c.requires.fits.1 in
    rw (none, out) (wrote_zero c.args.self.now)

pub loop-at-preserved : goal.loop-at-preserved
loop-at-preserved c =
    let l = c.loop-at in
    wrote_shift c.args.width l.at (l.at - 1) c.args.value _ (omega arith) (omega arith) (lowest_bit (c.args.value / 2 ^ (l.at - 1)))
    l.invariant c.write_bit.ensures
