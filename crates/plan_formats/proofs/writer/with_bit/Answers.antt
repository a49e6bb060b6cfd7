use Rattle.std.proofs.Common.{true, false, sym, ap, ◌∙◌, arith}
use mir.Val.{bool_byte}
use Rattle.plan_formats.proofs.Masks.{masked_here, masked_before}
use Rattle.plan_formats.proofs.writer.with_bit.Goals as goal

pub returns-then-one : goal.returns-then-one
returns-then-one c =
    record {
      here = masked_here true c.args.byte c.args.at (omega arith) c.requires ∙ ap bool_byte (sym c.if-one.true);
      before = masked_before true c.args.byte c.args.at (omega arith) c.requires;
    }

pub returns-else-one : goal.returns-else-one
returns-else-one c =
    record {
      here = masked_here false c.args.byte c.args.at (omega arith) c.requires ∙ ap bool_byte (sym c.if-one.false);
      before = masked_before false c.args.byte c.args.at (omega arith) c.requires;
    }
