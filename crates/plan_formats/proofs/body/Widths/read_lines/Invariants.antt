use Rattle.std.proofs.Common.{◌≡◌, length, take}
use Rattle.plan_formats.specs.Cursors.{Took}
use Rattle.plan_formats.proofs.Lines.{line_fields}
use Rattle.plan_formats.proofs.body.Widths.read_lines.Given as goal

abbrev pub invariant-loop-line : goal.invariant-loop-line
invariant-loop-line l =
    record {
      len : length l.line-items ≡ 4;
      took : Took l.initial.bits (line_fields l.self.word l.self.count (take l.line-index l.line-items)) l.bits;
    }
