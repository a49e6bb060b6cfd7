use Rattle.std.proofs.Common.{◌<◌, arith}
use Rattle.parity.proofs.Feeding.{fed_byte}
use Rattle.parity.proofs.register.fed.Goals as goal

pub returns : goal.returns
returns c w f p =
    let h : c.args.byte < 256 = omega arith in
    fed_byte c.args.register c.args.byte c.row.result w p.fits h f c.row.ensures p
