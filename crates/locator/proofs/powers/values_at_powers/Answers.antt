use Rattle.std.proofs.Common.{◌≡◌, ℕ, ◌+◌, ◌*◌, refl, ◌∙◌, arith}
use Rattle.locator.proofs.Rooting.{zeros_at}
use Rattle.locator.proofs.Moving.{moved_none, moved_more, values_more}
use Rattle.locator.proofs.powers.values_at_powers.Goals as goal

pub loop-block-init : goal.loop-block-init
loop-block-init c = (refl, c.told-p, moved_none c.args.p.now c.fits-p, λ i l. absurd (omega arith), λ i l. zeros_at 256 i)

pub loop-block-preserved : goal.loop-block-preserved
loop-block-preserved c =
    let inv = c.loop-block.invariant in
    let p = c.args.p.now in
    let b : ℕ = c.loop-block.block in
    let next : 16 * (b + 1) ≡ 16 * b + 16 = omega arith in (
      c.put.ensures.size,
      c.move_on.ensures.size,
      rw next (moved_more p c.loop-block.moved c.move_on.new.p (16 * b) inv.2 c.move_on.ensures.at),
      rw next
          (values_more p c.loop-block.moved c.values_at_roots.result c.loop-block.values c.put.new.values (16 * b) inv.1 inv.2
          c.values_at_roots.ensures inv.3 c.put.ensures.block c.put.ensures.before),
      λ i l. c.put.ensures.behind i (omega arith) ∙ inv.4 i (omega arith),
    )
