use Rattle.hexadecimal.proofs.Unhexing.{halves}
use Rattle.hexadecimal.proofs.read.HexText.byte_count.Goals as goal

pub returns : goal.returns
returns c = halves c.args.self.digits.now
