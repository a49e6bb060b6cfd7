use Rattle.std.proofs.Common.{ℕ, refl, ap, ◌∙◌, rules}
use lib.Bits.{bit_xor}
use Rattle.std.proofs.lemmas.Iterator.{YieldsList-from_range}
use Rattle.std.proofs.lemmas.Iterator.Consumers.{fold_from_yields_List}
use Rattle.digests.specs.Digests.{shifted, times, crc_step}
use Rattle.digests.proofs.crc.after.Goals as goal

pub returns : goal.returns
unfolding crc_step times
returns c =
    let start = bit_xor c.args.register c.from.result in
    fold_from_yields_List _ (λ (r k : ℕ). shifted r) start _ c.fold.ensures.ran (YieldsList-from_range 0 8 8 refl refl) (λ a x b q h. search rules)
    ∙ ap (λ (b : ℕ). times 8 (bit_xor c.args.register b)) c.from.ensures
