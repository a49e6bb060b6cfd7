use Rattle.std.proofs.Common.{take}
use Rattle.plan_formats.specs.Cursors.{Wrote}
use Rattle.plan_formats.proofs.Lines.{line_fields}
use Rattle.plan_formats.proofs.body.Widths.write_lines.Given as goal

abbrev pub invariant-loop-line : goal.invariant-loop-line
invariant-loop-line l = Wrote l.initial.bits (line_fields l.self.word l.self.count (take l.line-index l.fields.lines)) l.bits
