use Rattle.std.proofs.Common.{◌/◌, refl, arith}
use Rattle.std.proofs.lemmas.List.{length-set}
use mir.Val.{bool_byte}
use Rattle.plan_formats.specs.Bits.{front}
use Rattle.plan_formats.proofs.Fronts.{front_set}
use Rattle.plan_formats.proofs.Joins.{run_one}
use Rattle.plan_formats.proofs.Steps.{bool_small}
use Rattle.plan_formats.proofs.writer.BitWriter.write_bit.Goals as goal

pub returns : goal.returns
returns c =
    let bytes = c.args.self.now.bytes.now in
    let place = c.args.self.now.place in
    let written = front_set bytes place c.with_bit.result (bool_byte c.args.one) (omega arith) c.with_bit.ensures.here c.with_bit.ensures.before in
    record {
      same_reference = refl;
      len = length-set bytes (place / 8) c.with_bit.result;
      run = run_one (front bytes place) place 1 (bool_byte c.args.one) _ (omega (arith, written)) (bool_small c.args.one);
    }
