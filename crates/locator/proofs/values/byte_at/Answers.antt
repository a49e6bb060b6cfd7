use Rattle.std.proofs.Common.{get_or}
use Rattle.code_theory.specs.Sequences.{place}
use Rattle.locator.specs.Quotients.{Weighed}
use Rattle.locator.proofs.Valued.{byte_weighed}
use Rattle.locator.proofs.values.byte_at.Goals as goal

pub returns-clause-byte : goal.returns-clause-byte
returns-clause-byte c w size short f v clear =
    let places = c.args.places.now in
    let weight : Weighed c.args.sequence.now c.args.p.now.coefficients (place places.len (get_or places.list c.args.k 0)) c.weighed.result
    = rw c.exp.ensures at c.weighed.ensures in
    byte_weighed places.len places.count places.list (record { within = places.within; rising = places.rising })
    c.args.sequence.now c.told-sequence c.args.p.now.coefficients c.requires.vanishes places.room c.args.k c.requires.inside short
    c.weighed.result c.weighed.type_inv weight w size f v clear
