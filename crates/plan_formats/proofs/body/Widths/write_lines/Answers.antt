use Rattle.std.proofs.Common.{◌≡◌, ℕ, ◌^◌, ◌<◌, ◌≤◌, List, length, get_or, map, take, ap, ◌∙◌, subst, sym, arith}
use Rattle.std.proofs.lemmas.List.{get_or-map, take_all}
use Rattle.slot_plan.specs.declared.fields.LineNumbers.{LineNumbers}
use Rattle.plan_formats.specs.Bits.{Field}
use Rattle.plan_formats.specs.Cursors.{Wrote}
use Rattle.plan_formats.proofs.Lines.{line_fields, four_lines_same}
use Rattle.plan_formats.proofs.Placed.{fits_narrow}
use Rattle.plan_formats.proofs.Writing.{wrote_none, wrote_line}
use Rattle.plan_formats.proofs.body.Widths.write_lines.Goals as goal

-- a line's number fits, where the list of the lines' numbers does
fits :
    (w i v : ℕ) (f : LineNumbers → ℕ) (ls : List LineNumbers) (l : LineNumbers) → v ≡ f (get_or ls i l) → i < length ls → w ≤ 8 → v < 2 ^ 8 →
    (w < 8 → (k : ℕ) → get_or (map f ls) k 0 < 2 ^ w) → v < 2 ^ w
fits w i v f ls l e h narrow byte small =
    fits_narrow v w 8 narrow byte (λ less. subst (λ (n : ℕ). n < 2 ^ w) (get_or-map f ls i l 0 h ∙ sym e) (small less i))

pub loop-line-init : goal.loop-line-init
unfolding line_fields
loop-line-init c = wrote_none c.args.bits.now

pub write-requires-clause-fits : goal.write-requires-clause-fits
write-requires-clause-fits c =
    (omega arith, fits c.args.self.now.word c.loop-line.line-index c.from.result (λ (l : LineNumbers). l.word) c.args.fields.now.lines _ c.from.ensures (omega (arith, c.requires.shaped.0)) (omega arith) (omega arith) c.requires.small.words)

pub write-requires-in-loop-line-clause-fits : goal.write-requires-in-loop-line-clause-fits
write-requires-in-loop-line-clause-fits c =
    (omega arith, fits c.args.self.now.count c.loop-line.line-index c.from-in-loop-line.result (λ (l : LineNumbers). l.count) c.args.fields.now.lines _ c.from-in-loop-line.ensures (omega (arith, c.requires.shaped.0)) (omega arith) (omega arith) c.requires.small.counts)

pub loop-line-preserved : goal.loop-line-preserved
loop-line-preserved c =
    let w = c.args.self.now in
    let l = c.loop-line in
    wrote_line w.word w.count c.args.fields.now.lines l.line-index _ (omega (arith, c.requires.shaped.0)) l.invariant
    (rw c.from.ensures at c.write.ensures) (rw c.from-in-loop-line.ensures at c.write-in-loop-line.ensures)

pub returns : goal.returns
returns c =
    let w = c.args.self.now in
    let l = c.loop-line in
    let ls = c.args.fields.now.lines in
    let all : take l.line-index ls ≡ ls = take_all l.line-index ls (omega (arith, c.requires.shaped.0)) in
    subst (λ (fs : List Field). Wrote c.args.bits.now fs l.bits)
    (ap (line_fields w.word w.count) all ∙ four_lines_same w.word w.count ls c.requires.shaped.0) l.invariant
