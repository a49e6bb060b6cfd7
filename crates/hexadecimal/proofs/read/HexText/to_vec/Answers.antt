use Rattle.std.proofs.Common.{◌≡◌, ◌<◌, ◌≢◌, ◌/◌, [], List, ℕ, length, get_or, refl, ap, ◌∙◌, arith, rules, get_or-set_other, get_or-set_same, below_more, take_at}
use Rattle.std.proofs.lemmas.List.{ext_get_or}
use Rattle.hexadecimal.specs.Hex.{unhexed}
use Rattle.hexadecimal.proofs.Unhexing.{byte_of, byte_at, halves}
use Rattle.hexadecimal.proofs.read.HexText.to_vec.Goals as goal

pub loop-k-preserved : goal.loop-k-preserved
loop-k-preserved c =
    let text = c.args.self.digits.now in
    let k = c.loop-k.k in
    let within : k < length c.loop-k.byte-items = omega arith in
    let byte : c.byte_of.result ≡ get_or (unhexed text) k 0
    = c.byte_of.ensures ∙ ap (λ (pairs : List (List ℕ)). byte_of (get_or pairs k [])) c.as_chunks.ensures.front
    ∙ byte_at text (length text / 2) k refl (omega (arith, c.as_chunks.ensures.front_len, c.in_ok-bytes.ensures.len, c.deref_mut-byte-items.ensures.len)) in
    below_more _ _ (λ i h. let other : i ≢ k = omega arith in rw get_or-set_other (c.loop-k.invariant i h)) (rw get_or-set_same byte)

pub returns : goal.returns
returns c =
    let text = c.args.self.digits.now in
    let bytes = c.loop-k.byte-items in
    let size : length bytes ≡ length (unhexed text) = omega (arith, c.as_chunks.ensures.front_len, c.in_ok-bytes.ensures.len, halves text) in
    take_at bytes _ _ (search rules) ∙ ext_get_or 0 bytes (unhexed text) size (λ i h. c.loop-k.invariant i (omega arith))
