use Rattle.std.proofs.Common.{◌≡◌, ℕ, ◌<◌, List, length, get_or, set, sym, ◌∙◌, subst, arith, length-set, get_or-set_other, get_or-set_same, below_more}
use Rattle.code_theory.specs.Sequences.{place}
use Rattle.parity.proofs.Byte.{bytes_set}
use Rattle.locator.specs.Errors.{ByteAt}
use Rattle.locator.specs.Quotients.{Weighed}
use Rattle.locator.proofs.Filling.{filled_length, filled_front, filled_behind, filled_bytes}
use Rattle.locator.proofs.Valued.{interpolated}
use Rattle.locator.proofs.values.bytes_at.Goals as goal

pub loop-k-preserved : goal.loop-k-preserved
loop-k-preserved c =
    let s = c.args.sequence.now in
    let places = c.args.places.now in
    let p : List ℕ = c.polynomial_of-p.result.coefficients in
    let bytes : List ℕ = c.loop-k.byte-items in
    let k : ℕ = c.loop-k.k in
    let b : ℕ = c.byte_at.result in
    let inv = c.loop-k.invariant in
    let full : k < length bytes = omega arith in
    let same : (i : ℕ) → i < k → get_or bytes i 0 ≡ get_or (set bytes k b) i 0
    = λ i l. sym (get_or-set_other bytes k i b 0 (omega arith)) in
    let new : b ≡ get_or (set bytes k b) k 0 = sym (get_or-set_same bytes k b 0 full) in
    let At : ℕ → ℕ → Type 0 = λ i v. ByteAt s places.len places.count places.list i v in
    let By : ℕ → ℕ → Type 0 = λ i v. Weighed s p (place places.len (get_or places.list i 0)) v in
    record {
      size = length-set bytes k b ∙ inv.size;
      bytes = bytes_set bytes k b inv.bytes c.byte_at.type_inv;
      each = below_more (λ i. At i (get_or (set bytes k b) i 0)) k (λ i l. subst (At i) (same i l) (inv.each i l)) (subst (At k) new c.byte_at.ensures.byte);
      weighed = below_more (λ i. By i (get_or (set bytes k b) i 0)) k (λ i l. subst (By i) (same i l) (inv.weighed i l)) (subst (By k) new c.byte_at.ensures.weighed);
    }

pub returns : goal.returns
returns c =
    let places = c.args.places.now in
    let count : ℕ = places.count in
    let items : List ℕ = c.loop-k.byte-items in
    let inv = c.loop-k.invariant in
    let front = filled_front items count inv.size in
    record {
      size = filled_length items count inv.size places.room;
      bytes = filled_bytes items count inv.size inv.bytes;
      meets =
          interpolated places.len count places.list (record { within = places.within; rising = places.rising })
          c.args.sequence.now c.told-sequence c.fits-sequence c.polynomial_of-p.result.coefficients c.polynomial_of-p.ensures places.room
          _ (λ k l. rw (front k l) (inv.weighed k (omega arith)));
      each = λ k l. rw (front k l) (inv.each k (omega arith));
      spare = λ k l. filled_behind items count inv.size k l;
    }
