use Rattle.parity.proofs.Feeding.{fed_block}
use Rattle.parity.proofs.Blocks.{block_bytes}
use Rattle.parity.proofs.register.fed_block.Goals as goal

pub returns : goal.returns
returns c w f p =
    let d = c.from_be_bytes.result in
    rw (block_bytes c.args.block.now d c.told-block c.fits-block c.from_be_bytes.ensures) at
    (fed_block c.args.register d c.rows.result w f c.rows.ensures p)
