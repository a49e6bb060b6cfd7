use Rattle.std.proofs.Common.{ℕ, List, length, get_or, sym, ap, ◌∙◌, add-one, arith}
use Rattle.std.proofs.lemmas.List.{get_or_past, length_push}
use Rattle.locator.specs.Errors.{corrected}
use Rattle.locator.proofs.Correcting.{corrected_none, byte_here, byte_other, corrected_length, error_here, errors_end}
use Rattle.locator.proofs.errors.Errors.corrected_byte.Goals as goal

pub loop-at-init : goal.loop-at-init
loop-at-init c = (
  sym (ap (λ (w : List ℕ). get_or w c.args.place 0) (corrected_none c.args.self.now.places.list c.args.self.now.values c.args.word.now)),
  omega arith,
)

pub loop-at-preserved-then-at-place : goal.loop-at-preserved-then-at-place
loop-at-preserved-then-at-place c =
    let e = c.args.self.now in
    let m = length c.loop-at.yielded in
    let h = error_here e.places.count e.places.list e.values c.loop-at.yielded c.into_iter-at-iterator.result c.loop-at.at-iterator c.next.new.self
    c.next.result (cc) (cc) c.loop-at.yielded_by c.next.ensures.steps _ c.in-Some.is in
    rw (length_push, add-one) (
      c.sum-byte.ensures
          ∙ rw (c.loop-at.invariant.0, h.1) (sym (byte_here m c.args.place e.places.list e.values c.args.word.now (sym h.0 ∙ c.if-at-place.true) (omega arith))),
      c.sum-byte.type_inv,
    )

pub loop-at-preserved : goal.loop-at-preserved
loop-at-preserved c =
    let e = c.args.self.now in
    let m = length c.loop-at.yielded in
    let h = error_here e.places.count e.places.list e.values c.loop-at.yielded c.into_iter-at-iterator.result c.loop-at.at-iterator c.next.new.self
    c.next.result (cc) (cc) c.loop-at.yielded_by c.next.ensures.steps _ c.in-Some.is in
    rw (length_push, add-one) (
      c.loop-at.invariant.0 ∙ sym (byte_other m c.args.place e.places.list e.values c.args.word.now (λ s. c.if-at-place.false (h.0 ∙ s))),
      c.loop-at.invariant.1,
    )

pub returns-then-place-word : goal.returns-then-place-word
returns-then-place-word c =
    let e = c.args.self.now in
    let w = c.args.word.now in
    sym (get_or_past (corrected e.places.count e.places.list e.values w) c.args.place 0 (omega (arith, corrected_length e.places.count e.places.list e.values w)))

pub returns : goal.returns
returns c =
    let e = c.args.self.now in
    let done = errors_end e.places.count e.places.list e.values c.loop-at.yielded c.into_iter-at-iterator.result c.loop-at.at-iterator c.next.new.self
    c.next.result (cc) (cc) c.loop-at.yielded_by c.next.ensures.steps (omega arith) (omega arith) c.in-None.is in
    rw done at c.loop-at.invariant.0
