use Rattle.std.proofs.Common.{length, set, sym, ap, ◌∙◌, add-one, arith}
use Rattle.std.proofs.lemmas.List.{length_push}
use Rattle.locator.proofs.Correcting.{corrected_none, corrected_more, changed_set, changed_past, error_here, errors_end}
use Rattle.locator.proofs.errors.Errors.correct.Goals as goal

pub loop-at-init : goal.loop-at-init
loop-at-init c = sym (corrected_none c.args.self.now.places.list c.args.self.now.values c.args.word.now)

pub loop-at-preserved-then-at-word : goal.loop-at-preserved-then-at-word
loop-at-preserved-then-at-word c =
    let e = c.args.self.now in
    let h = error_here e.places.count e.places.list e.values c.loop-at.yielded c.into_iter-at-iterator.result c.loop-at.at-iterator c.next.new.self
    c.next.result (cc) (cc) c.loop-at.yielded_by c.next.ensures.steps _ c.in-Some.is in
    rw (length_push, add-one, corrected_more (length c.loop-at.yielded) e.places.list e.values c.args.word.now, ← c.loop-at.invariant, ← h.0, ← h.1)
    (ap (set c.loop-at.word c.in-Some.at.now) c.sum.ensures ∙ sym (changed_set c.loop-at.word _ _))

pub loop-at-preserved : goal.loop-at-preserved
loop-at-preserved c =
    let e = c.args.self.now in
    let h = error_here e.places.count e.places.list e.values c.loop-at.yielded c.into_iter-at-iterator.result c.loop-at.at-iterator c.next.new.self
    c.next.result (cc) (cc) c.loop-at.yielded_by c.next.ensures.steps _ c.in-Some.is in
    rw (length_push, add-one, corrected_more (length c.loop-at.yielded) e.places.list e.values c.args.word.now, ← c.loop-at.invariant, ← h.0)
    (sym (changed_past c.loop-at.word _ _ c.if-at-word.false))

pub returns : goal.returns
returns c =
    let e = c.args.self.now in
    let done = errors_end e.places.count e.places.list e.values c.loop-at.yielded c.into_iter-at-iterator.result c.loop-at.at-iterator c.next.new.self
    c.next.result (cc) (cc) c.loop-at.yielded_by c.next.ensures.steps (omega arith) (omega arith) c.in-None.is in
    rw done at c.loop-at.invariant
