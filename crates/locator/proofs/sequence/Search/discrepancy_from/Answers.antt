use Rattle.std.proofs.Common.{◌-◌, length-take, get_or-drop, ◌≡◌, ◌<◌, ◌+◌, length, get_or, take, drop, sym, ap, ◌∙◌, add-one, arith}
use Rattle.std.proofs.lemmas.Slice.Zip.{zip_turn}
use Rattle.std.proofs.lemmas.List.{length_push, get_or-take}
use Rattle.field256.specs.Field.{plus}
use Rattle.code_theory.proofs.Locating.{paired_none, paired_more}
use Rattle.locator.proofs.sequence.Search.discrepancy_from.Goals as goal

pub loop-coefficient-init : goal.loop-coefficient-init
loop-coefficient-init c = sym (paired_none c.args.self.now.locator c.args.sequence.now c.args.from)

pub loop-coefficient-preserved : goal.loop-coefficient-preserved
loop-coefficient-preserved c =
    let p = c.args.self.now.locator in
    let s = c.args.sequence.now in
    let d = c.args.self.now.degree in
    let n = length c.loop-coefficient.yielded in
    let t = zip_turn (take (d + 1) p) (take (length s - c.args.from) (drop c.args.from s)) c.loop-coefficient.yielded
    c.into_iter-coefficient-iterator.result c.loop-coefficient.coefficient-iterator c.next.new.self c.next.result (cc) (cc c.zip-coefficient-items.ensures.second.0) c.loop-coefficient.yielded_by
    _ c.in-Some.is c.next.ensures.steps in
    let below : n < d + 1 = omega (arith, t.0, length-take (d + 1) p) in
    let within : n < length s - c.args.from = omega (arith, t.1, length-take (length s - c.args.from) (drop c.args.from s)) in
    let coefficient : c.in-Some.coefficient.now ≡ get_or p n 0 = t.2 0 ∙ get_or-take (d + 1) p n 0 below in
    let element : c.in-Some.element.now ≡ get_or s (c.args.from + n) 0
    = t.3 0 ∙ get_or-take (length s - c.args.from) (drop c.args.from s) n 0 within ∙ get_or-drop c.args.from s n 0 in
    rw (length_push, add-one, paired_more n p s c.args.from, ← c.loop-coefficient.invariant, ← coefficient, ← element)
    (c.sum-total.ensures ∙ ap (plus c.loop-coefficient.total) c.product.ensures)
