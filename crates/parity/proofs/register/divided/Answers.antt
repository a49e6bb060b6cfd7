use Rattle.std.proofs.Common.{◌≡◌, ◌*◌, ◌/◌, [], ◌∷◌, length, take, drop, ◌∙◌, ap, append-nil, rules}
use Rattle.std.specs.List.{concat}
use Rattle.std.specs.Simd.{first_chunks}
use Rattle.std.proofs.lemmas.List.{take-append-drop}
use Rattle.std.proofs.lemmas.Fn.{fold_over, slice_gives, fronts}
use Rattle.code_theory.specs.Codeword.{Bytes}
use Rattle.parity.specs.Remainder.{shifted, Remainder}
use Rattle.parity.proofs.Feeding.{empty}
use Rattle.parity.proofs.Blocks.{Fed, FedBlocks, joined_blocks, fed_more, block_more}
use Rattle.parity.proofs.register.divided.Goals as goal

pub returns : goal.returns
returns c =
    let xs = c.args.message.now in
    let n = length xs / 8 in
    let front = take (n * 8) xs in
    let these : c.iter.result.rest.now ≡ first_chunks 8 n xs = cc in
    let those : c.iter-2.result.rest.now ≡ drop (n * 8) xs = cc in
    let blocks =
    fold_over fronts (λ y. y.now) _ FedBlocks _ (λ bs r x s f' before k. (block_more bs x.now r s before (search rules), search rules))
    _ _ _ _ (slice_gives c.iter.result) (λ f. empty) c.fold-register.ensures.ran in
    let joined : concat c.iter.result.rest.now ≡ front = ap concat these ∙ joined_blocks n xs in
    let register : Bytes front → Remainder (shifted 16 front) c.fold-register.result = rw joined at blocks in
    let bytes =
    fold_over fronts (λ y. y.now) _ (Fed front) _ (λ ys r x s f' before k. (fed_more front ys (x.now ∷ []) r s before (search rules), search rules))
    _ _ _ _ (slice_gives c.iter-2.result) (rw (append-nil front) register) c.fold.ensures.ran in
    rw (those, take-append-drop (n * 8) xs) at bytes (λ k. (c.type_inv.message k).fits)
