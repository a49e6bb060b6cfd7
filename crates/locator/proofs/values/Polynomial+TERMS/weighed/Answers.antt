use Rattle.std.specs.Option.{unwrap_or}
use Rattle.std.proofs.Common.{◌≡◌, ◌≢◌, Option, Some, None, MatchOption, ℕ, suc, ◌+◌, ◌-◌, ◌<◌, List, length, get_or, take, drop, reverse, sym, ap, ◌∙◌, add-one, arith, get_or-drop, length-take, length-drop}
use native.Mathlib.Nat.{sub-zero}
use Rattle.std.proofs.lemmas.List.{get_or-take, length-reverse, length_push}
use Rattle.std.proofs.lemmas.Slice.Zip.{length-zip}
use Rattle.std.proofs.lemmas.Iterator.{YieldsList-from_zip}
use Rattle.std.proofs.lemmas.Iterator.Adapters.{YieldsList-from_rev_slice}
use Rattle.std.proofs.lemmas.Iterator.Consumers.{YieldsList-turn, YieldsList-end}
use Rattle.field256.specs.Field.{times}
use Rattle.code_theory.specs.Sequences.{polynomial, paired}
use Rattle.locator.specs.Quotients.{quotient_by}
use Rattle.locator.proofs.Dividing.{above, quotient_step, length_quotient, quotient_bytes}
use Rattle.locator.proofs.Weighing.{dot_paired, dot_zeros, dot_more, horner_polynomial, horner_zeros, horner_more, from_the_end}
use Rattle.locator.proofs.values.Polynomial+TERMS.weighed.Goals as goal

pub loop-above-init : goal.loop-above-init
loop-above-init c =
    let p = c.args.self.now.coefficients in
    let x = c.args.x in
    let d : ℕ = c.args.self.now.degree in
    let gone : (j : ℕ) → get_or (drop d (quotient_by p x)) j 0 ≡ 0
    = λ j. get_or-drop d (quotient_by p x) j 0 ∙ above 16 p d x c.args.self.now.shape 17 _ (omega arith) (omega arith) in
    rw sub-zero (record {
      coefficient = sym (above 16 p d x c.args.self.now.shape 17 d (omega arith) (omega arith));
      paired = sym (dot_zeros (drop d (quotient_by p x)) (drop d c.args.sequence.now) gone);
      value = sym (horner_zeros (drop d (quotient_by p x)) x gone);
      fits = (omega arith, omega arith, omega arith);
    })

pub loop-above-preserved : goal.loop-above-preserved
loop-above-preserved c =
    let p = c.args.self.now.coefficients in
    let x = c.args.x in
    let s = c.args.sequence.now in
    let q : List ℕ = quotient_by p x in
    let d : ℕ = c.args.self.now.degree in
    let n : ℕ = length c.loop-above.yielded in
    let ks : List ℕ = take (d + 1 - 1) (drop 1 p) in
    let vs : List ℕ = take d s in
    let inv = c.loop-above.invariant in
    let room : d < 17 = c.args.self.now.shape.room in
    let size : length p ≡ 17 = c.args.self.now.shape.size in
    let long : length q ≡ 17 = length_quotient p x ∙ size in
    let sixteen : length s ≡ 16 = c.told-sequence in
    let turn = from_the_end ks vs d n c.in-Some.above.now c.in-Some.element.now
    (omega (arith, length-take (d + 1 - 1) (drop 1 p), length-drop 1 p)) (omega (arith, length-take d s))
    (YieldsList-turn (YieldsList-from_zip (YieldsList-from_rev_slice ks (cc)) (YieldsList-from_rev_slice vs (cc))) c.loop-above.yielded
    c.loop-above.above-iterator c.loop-above.yielded_by c.next.result c.next.new.self _ c.in-Some.is c.next.ensures.steps) in
    let j : ℕ = d - suc n in
    let next : d - n ≡ suc j = omega (arith, turn.0) in
    let coefficient : c.in-Some.above.now ≡ get_or p (suc j) 0
    = turn.1 ∙ get_or-take (d + 1 - 1) (drop 1 p) j 0 (omega (arith, turn.0)) ∙ get_or-drop 1 p j 0 ∙ ap (λ (i : ℕ). get_or p i 0) (one_more j) in
    let element : c.in-Some.element.now ≡ get_or s j 0 = turn.2 ∙ get_or-take d s j 0 (omega (arith, turn.0)) in
    let carried : c.loop-above.coefficient ≡ get_or q (suc j) 0 = rw next at inv.coefficient in
    let made : c.sum-coefficient.result ≡ get_or q j 0
    = c.sum-coefficient.ensures ∙ rw (c.product.ensures, coefficient, carried) (sym (quotient_step p x j)) in
    rw (length_push, add-one) (record {
      coefficient = made;
      paired = c.sum-paired.ensures
          ∙ rw (c.product-in-loop-above.ensures, made, element, rw next at inv.paired) (sym (dot_more q s j (omega (arith, turn.0)) (omega (arith, turn.0))));
      value = c.sum-value.ensures
          ∙ rw (c.product-in-loop-above-2.ensures, made, rw next at inv.value) (sym (horner_more q x j (omega (arith, turn.0))));
      fits = (c.sum-coefficient.type_inv, c.sum-paired.type_inv, c.sum-value.type_inv);
    })
  where
    one_more : (j : ℕ) → 1 + j ≡ suc j
    one_more j = omega arith

pub returns : goal.returns
returns c some =
    let p = c.args.self.now.coefficients in
    let x = c.args.x in
    let s = c.args.sequence.now in
    let q : List ℕ = quotient_by p x in
    let d : ℕ = c.args.self.now.degree in
    let ks : List ℕ = take (d + 1 - 1) (drop 1 p) in
    let vs : List ℕ = take d s in
    let inv = c.loop-above.invariant in
    let size : length p ≡ 17 = c.args.self.now.shape.size in
    let room : d < 17 = c.args.self.now.shape.room in
    let sixteen : length s ≡ 16 = c.told-sequence in
    let long : length q ≡ 17 = length_quotient p x ∙ size in
    let all = YieldsList-end (YieldsList-from_zip (YieldsList-from_rev_slice ks (cc)) (YieldsList-from_rev_slice vs (cc))) c.loop-above.yielded
    c.loop-above.above-iterator c.loop-above.yielded_by c.next.result c.next.new.self c.in-None.is c.next.ensures.steps in
    let end : d - length c.loop-above.yielded ≡ 0
    = omega (arith, all.1, length-zip (reverse ks) (reverse vs), length-reverse ks, length-reverse vs, length-take (d + 1 - 1) (drop 1 p), length-drop 1 p, length-take d s) in
    let value : c.loop-above.value ≡ polynomial 17 q x
    = rw end at inv.value
    ∙ horner_polynomial q x (quotient_bytes 16 p d x c.args.self.now.shape) ∙ ap (λ (k : ℕ). polynomial k q x) long in
    let whole : c.loop-above.paired ≡ paired 17 q s 0
    = rw end at inv.paired ∙ dot_paired q s ∙ ap (λ (k : ℕ). paired k q s 0) long in
    ap (times c.unwrap_or.result) (sym value) ∙ divided _ _ _ _ c.quotient.ensures c.unwrap_or.ensures (λ z. some (sym value ∙ z)) ∙ whole
  where
    divided : (o : Option ℕ) (a b r : ℕ) → MatchOption o (b ≡ 0) (λ q. (b ≢ 0) × (times q b ≡ a)) → r ≡ unwrap_or o 0 → b ≢ 0 → times r b ≡ a
    divided None a b r zero e other = absurd (other zero)
    divided (Some q) a b r is e other = rw e is.1
