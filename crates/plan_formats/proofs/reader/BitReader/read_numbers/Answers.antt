use Rattle.std.proofs.Common.{length, map, arith}
use Rattle.std.proofs.lemmas.List.{length-map, map-set}
use Rattle.plan_formats.specs.Body.{numbers}
use Rattle.plan_formats.proofs.Placed.{fits_more}
use Rattle.plan_formats.proofs.Reading.{took_none, took_number, took_room}
use Rattle.plan_formats.proofs.reader.BitReader.read_numbers.Goals as goal

pub loop-value-init : goal.loop-value-init
unfolding numbers
loop-value-init g c = took_none c.args.self.now

pub read-requires : goal.read-requires
read-requires g c =
    let l = c.loop-value in
    let len = length-map l.values g.T.Number.value in
    let narrow = g.met.T.Number.narrow in
    record {
      room = took_room c.args.width (map g.T.Number.value l.values) l.value-index (length c.args.values.now) l.invariant (omega arith) (omega (arith, len)) c.requires.room;
      fits = omega (arith, narrow, c.requires.fits);
    }

pub from_bits-requires : goal.from_bits-requires
from_bits-requires g c = fits_more c.read.result c.args.width g.T.Number.size c.read.ensures.bound c.requires.fits

pub loop-value-preserved : goal.loop-value-preserved
loop-value-preserved g c =
    let l = c.loop-value in
    let f = g.T.Number.value in
    let len = length-map l.values f in
    let more = took_number c.args.width (map f l.values) l.value-index c.read.result (omega (arith, len)) l.invariant c.read.ensures.took in
    rw (map-set f l.values l.value-index c.from_bits.result, c.from_bits.ensures) more
