use Rattle.std.proofs.Common.{◌≡◌, ℕ, ◌+◌, ◌-◌, ◌⊎◌, length, arith}
use lib.Bits.{bit_xor}
use Rattle.code_theory.specs.Codeword.{Bytes}
use Rattle.parity.specs.Remainder.{Remainder}
use Rattle.parity.proofs.Byte.{bytes_take}
use Rattle.parity.proofs.Unique.{remainder_split, remainder_unique}
use Rattle.parity.proofs.remainder.Goals as goal

-- the front of a word is empty, or its back whole
front_or_back : (n f b : ℕ) → f ≡ n - 16 → b + f ≡ n → (f ≡ 0) ⊎ (b ≡ 16)
front_or_back n f b p q = search arith

-- the last sixteen bytes and the register after the others make the remainder
joined : (c : goal.After-number) → Remainder c.args.word.now (bit_xor c.divided.result c.number.result)
joined c =
    let w = c.args.word.now in
    let s = c.split_at.ensures in
    let u = c.split_at.result.0.now in
    let v = c.split_at.result.1.now in
    let fu : Bytes u = rw s.front (bytes_take c.saturating_sub.result w (λ k. (c.type_inv.word k).fits)) in
    let fv : Bytes v = λ k. rw (s.by_index.2 k 0) (c.type_inv.word (c.saturating_sub.result + k)).fits in
    let r = remainder_split u v c.divided.result fu fv (omega arith) (front_or_back (length w) (length u) (length v) (omega arith) (omega arith)) c.divided.ensures in
    rw (s.by_index.0, c.number.ensures) r

pub returns : goal.returns
returns c = record {
  is = joined c;
  only = λ s p. remainder_unique c.args.word.now s (bit_xor c.divided.result c.number.result) p (joined c);
}
