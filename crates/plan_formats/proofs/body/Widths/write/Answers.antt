use Rattle.std.proofs.Common.{◌<◌, take, arith}
use Rattle.std.proofs.lemmas.List.{length-take-le, get_or-take, map-id}
use Rattle.plan_formats.specs.Body.{body}
use Rattle.plan_formats.proofs.Writing.{wrote_append, wrote_values}
use Rattle.plan_formats.proofs.body.Widths.write.Goals as goal

pub write_numbers-requires-clause-fits : goal.write_numbers-requires-clause-fits
write_numbers-requires-clause-fits c h k l =
    let w = c.args.self.now in
    let xs = c.args.fields.now.streams in
    let len = length-take-le w.streams xs (omega (arith, c.requires.shaped.1)) in
    let within : k < w.streams = omega (arith, l, len) in
    rw (map-id (take w.streams xs), get_or-take w.streams xs k 0 within) (c.requires.small.streams h k within)

pub returns : goal.returns
unfolding body
returns c =
    let w = c.args.self.now in
    let f = c.args.fields.now in
    let streams = wrote_values w.stream (take w.streams f.streams) c.write_numbers.ensures in
    let ids = wrote_values 16 f.ts_ids c.write_numbers-2.ensures in
    let control = rw c.from.ensures at c.write.ensures in
    wrote_append _ _ c.write_lines.ensures (wrote_append _ _ streams (wrote_append _ _ ids (wrote_append _ _ control c.write-2.ensures)))
