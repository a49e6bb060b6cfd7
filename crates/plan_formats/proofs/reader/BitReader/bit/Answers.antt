use Rattle.std.proofs.Common.{◌+◌, ◌-◌, ◌/◌, ◌%◌, ◌^◌, get_or, refl, arith}
use Rattle.std.proofs.lemmas.Nat.{and_mask}
use Rattle.plan_formats.specs.Bits.{front}
use Rattle.plan_formats.proofs.Joins.{run_one}
use Rattle.plan_formats.proofs.Steps.{bit_below, front_more}
use Rattle.plan_formats.proofs.reader.BitReader.bit.Goals as goal

pub returns : goal.returns
returns c =
    let bytes = c.args.self.now.bytes.now in
    let place = c.args.self.now.place in
    let own = and_mask (get_or bytes (place / 8) 0 / 2 ^ (7 - place % 8)) 1 in
    record {
      bytes = refl;
      run = run_one (front bytes place) place 1 _ (front bytes (place + 1))
          (omega (arith, front_more bytes place, own)) (omega (arith, bit_below bytes place, own));
    }
