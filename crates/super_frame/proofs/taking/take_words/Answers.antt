use Rattle.std.proofs.Common.{ℕ, sym, subst, ⊎_elim, arith}
use Rattle.std.proofs.lemmas.Bool.{cases_eq}
use Rattle.super_frame.specs.Reads.{Taken}
use Rattle.super_frame.proofs.Takings.{taken_left}
use Rattle.super_frame.proofs.taking.take_words.Goals as goal

pub loop-slot-preserved : goal.loop-slot-preserved
loop-slot-preserved g c =
    let rest = g.T.Element.idle in
    let first = c.args.first in
    let slots = c.args.frames.now.slots in
    let stream = c.args.frames.now.elements.now in
    let after = c.take_slot.new.words in (
      omega arith,
      omega arith,
      λ s h.
          ⊎_elim
          (λ e. subst (λ (t : ℕ). Taken rest first slots stream after t) (sym e) c.take_slot.ensures.here)
          (λ ne.
          taken_left rest first slots s stream c.loop-slot.words after
          (c.take_slot.ensures.others s (omega (arith, h, c.loop-slot-test.true)) ne) (c.loop-slot.invariant.2 s (omega (arith, h, ne))))
          (cases_eq s c.loop-slot.slot),
    )
