use Rattle.std.proofs.Common.{◌≡◌, ℕ, ◌+◌, ◌*◌, ◌<◌, List, get_or, sym, ap, ◌∙◌, div-one, arith}
use lib.Bits.{bit_xor}
use Rattle.std.proofs.lemmas.List.{ext_get_or}
use Rattle.dispersal.specs.Stages.{added, bits, sequence}
use Rattle.dispersal.proofs.Added.{length_added, get_or_added}
use Rattle.dispersal.proofs.Windows.{octets, octet_bits}
use Rattle.dispersal.proofs.sequence.Sequence.add_group.Goals as goal

pub returns : goal.returns
unfolding sequence
returns c =
    let xs = c.args.group.now in
    let l = c.loop-k in
    let x = c.advance.result in
    let octets-are : c.to_be_bytes-eight.result ≡ octets 8 x = simp div-one c.to_be_bytes-eight.ensures in
    record {
      bytes = λ n here.
          ext_get_or 0 l.group (added n xs) (omega (arith, length_added n xs))
          (λ k h.
          let few : k < 8 = omega arith in
          let place : 8 * n + 8 * k ≡ 8 * (n + k) = omega arith in
          let term : get_or c.to_be_bytes-eight.result k 0 ≡ sequence (n + k) =
          ap (λ (ys : List ℕ). get_or ys k 0) octets-are
          ∙ (octet_bits (8 * n) k x (c.advance.ensures.bytes n here) few ∙ ap (λ (t : ℕ). bits t 8) place) in
          l.invariant.0 k (omega arith) ∙ (ap (λ (b : ℕ). bit_xor (get_or xs k 0) b) term ∙ sym (get_or_added n xs k (omega arith))));
      place = c.advance.ensures.place;
    }
