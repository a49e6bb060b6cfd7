use Rattle.std.proofs.Common.{◌≡◌, List, take, ap, ◌∙◌, refl, subst, arith}
use Rattle.std.proofs.lemmas.List.{length-set, take_all}
use Rattle.plan_formats.specs.Bits.{Field}
use Rattle.plan_formats.specs.Cursors.{Took}
use Rattle.plan_formats.proofs.Lines.{line_fields, four_lines_same}
use Rattle.plan_formats.proofs.Reading.{took_none, took_line}
use Rattle.plan_formats.proofs.body.Widths.read_lines.Goals as goal

pub loop-line-init : goal.loop-line-init
unfolding line_fields
loop-line-init c = record { len = refl; took = took_none c.args.bits.now }

pub loop-line-preserved : goal.loop-line-preserved
loop-line-preserved c =
    let w = c.args.self.now in
    let l = c.loop-line in
    record {
      len = length-set l.line-items l.line-index _ ∙ l.invariant.len;
      took = took_line w.word w.count l.line-items l.line-index c.read.result c.read-in-loop-line.result (omega (arith, l.invariant.len)) l.invariant.took
          c.read.ensures.took c.read-in-loop-line.ensures.took;
    }

pub returns-clause-took : goal.returns-clause-took
returns-clause-took c =
    let w = c.args.self.now in
    let l = c.loop-line in
    let all : take l.line-index l.line-items ≡ l.line-items = take_all l.line-index l.line-items (omega (arith, l.invariant.len)) in
    subst (λ (fs : List Field). Took c.args.bits.now fs l.bits)
    (ap (line_fields w.word w.count) all ∙ four_lines_same w.word w.count l.line-items l.invariant.len) l.invariant.took
