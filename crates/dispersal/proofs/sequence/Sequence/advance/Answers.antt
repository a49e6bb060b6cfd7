use Rattle.std.proofs.Common.{◌≡◌, ◌+◌, ◌-◌, ◌*◌, arith}
use Rattle.std.proofs.lemmas.Nat.{shr_below}
use Rattle.dispersal.proofs.Places.{at_bytes, stepped, stepped_below, after_bytes, reached_on}
use Rattle.dispersal.proofs.sequence.Sequence.advance.Goals as goal

pub invariant_of-self : goal.invariant_of-self
invariant_of-self g c =
    let m = g.row.BYTES in
    let w = c.args.self.now.window in
    let room = c.args.self.now.room in
    record { room = stepped_below m w c.requires room; reached = reached_on w (stepped m w) m (after_bytes m w c.requires room) c.args.self.now.reached }

pub returns : goal.returns
returns g c =
    let m = g.row.BYTES in
    let w = c.args.self.now.window in
    let room = c.args.self.now.room in
    let whole : 8 * m + (120 - 8 * m) ≡ 120 = omega arith in
    record { fits = shr_below w (8 * m) (120 - 8 * m) (rw whole room); bytes = at_bytes m w c.requires; place = after_bytes m w c.requires room }
