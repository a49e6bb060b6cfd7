use Rattle.std.proofs.Common.{◌≡◌, ℕ, ◌^◌, ◌<◌, length, get_or, map, sym, ap, ◌∙◌, subst, arith}
use Rattle.std.proofs.lemmas.List.{length-map, get_or-map}
use Rattle.plan_formats.specs.Body.{numbers}
use Rattle.plan_formats.proofs.Placed.{fits_narrow}
use Rattle.plan_formats.proofs.Writing.{wrote_none, wrote_number, wrote_room}
use Rattle.plan_formats.proofs.writer.BitWriter.write_numbers.Goals as goal

pub loop-value-init : goal.loop-value-init
unfolding numbers
loop-value-init g c = wrote_none c.args.self.now

pub write-requires-clause-room : goal.write-requires-clause-room
write-requires-clause-room g c =
    let l = c.loop-value in
    let len = length-map c.args.values.now g.T.Number.value in
    wrote_room c.args.width (map g.T.Number.value c.args.values.now) l.value-index (length c.args.values.now) l.invariant (omega arith) (omega (arith, len)) c.requires.room

pub write-requires-clause-fits : goal.write-requires-clause-fits
write-requires-clause-fits g c =
    let l = c.loop-value in
    let narrow = g.met.T.Number.narrow in
    let xs = map g.T.Number.value c.args.values.now in
    let own : c.to_bits.result ≡ get_or xs l.value-index 0 =
    c.to_bits.ensures.value ∙ ap g.T.Number.value c.value-item.is ∙ sym (get_or-map g.T.Number.value c.args.values.now l.value-index c.value-item.result 0 (omega arith)) in (
      omega (arith, narrow, c.requires.narrow),
      fits_narrow c.to_bits.result c.args.width g.T.Number.size c.requires.narrow c.to_bits.ensures.bound
          (λ h. subst (λ (v : ℕ). v < 2 ^ c.args.width) (sym own) (c.requires.fits h l.value-index (omega arith))),
    )

pub loop-value-preserved : goal.loop-value-preserved
loop-value-preserved g c =
    let l = c.loop-value in
    let xs = map g.T.Number.value c.args.values.now in
    let len = length-map c.args.values.now g.T.Number.value in
    let own : c.to_bits.result ≡ get_or xs l.value-index 0 =
    c.to_bits.ensures.value ∙ ap g.T.Number.value c.value-item.is ∙ sym (get_or-map g.T.Number.value c.args.values.now l.value-index c.value-item.result 0 (omega arith)) in
    wrote_number c.args.width xs l.value-index (omega (arith, len)) l.invariant (rw own at c.write.ensures)
