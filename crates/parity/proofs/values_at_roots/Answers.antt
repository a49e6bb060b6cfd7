use Rattle.std.proofs.Common.{◌≡◌, ℕ, ◌+◌, ◌<◌, length, get_or, drop, sym, ap, ◌∙◌, add-one, arith, length-drop}
use Rattle.field256.specs.Field.{power, times}
use Rattle.code_theory.specs.Sequences.{polynomial}
use Rattle.code_theory.proofs.Locating.{polynomial_none}
use Rattle.parity.specs.Remainder.{bytes_of}
use Rattle.parity.proofs.Numbers.{length_bytes, bytes_fit}
use Rattle.parity.proofs.Sixteen.{bytes_zero, term_more, one_read, all_read}
use Rattle.parity.proofs.values_at_roots.Goals as goal

pub loop-place-init : goal.loop-place-init
loop-place-init c =
    let p = c.args.p.now in
    let it = c.into_iter-place-iterator.result in
    let none : it.iter.count ≡ 0 = cc in
    let whole : it.iter.iter.rest.now ≡ p = cc in
    let all : it.n ≡ 16 = cc in
    record {
      values = λ j h. rw none (bytes_zero 16 j ∙ sym (polynomial_none p (power 2 j)));
      rest = rw none whole;
      left = omega (arith, none, all);
      within = omega (arith, none);
    }

pub loop-place-preserved : goal.loop-place-preserved
loop-place-preserved c =
    let p = c.args.p.now in
    let k : ℕ = c.loop-place.place-iterator.iter.count in
    let inv = c.loop-place.invariant in
    let steps = c.in-Some.ensures.steps in
    let read = one_read k p c.in-Some.c.now c.next.new.self.iter.iter.rest.now (sym inv.rest ∙ steps.0.0) in
    let on : c.next.new.self.iter.count ≡ k + 1 = steps.0.2 in
    let term : (j : ℕ) → j < 16 → get_or (bytes_of 16 c.term-all.result) j 0 ≡ times (get_or p k 0) (power (power 2 j) k)
    = λ j h. rw (read.0, ← steps.0.1) (c.term-all.ensures j h) in
    rw on (record {
      values = λ j h. rw (add-one k) (term_more p k c.loop-place.all c.term-all.result j (inv.values j h) (term j h));
      rest = read.1;
      left = omega arith;
      within = omega arith;
    })

pub returns : goal.returns
returns c =
    let p = c.args.p.now in
    let k : ℕ = c.loop-place.place-iterator.iter.count in
    let inv = c.loop-place.invariant in
    let end =
    all_read k c.loop-place.place-iterator.n (length p) (length (drop k p)) inv.left inv.within (length-drop k p)
    (λ h. ap length (sym inv.rest) ∙ (c.in-None.ensures.steps h).0.0) in
    rw c.bytes_of.ensures (record {
      size = length_bytes 16 c.loop-place.all;
      bytes = bytes_fit 16 c.loop-place.all;
      at = λ j h. inv.values j h ∙ ap (λ (n : ℕ). polynomial n p (power 2 j)) end;
    })
