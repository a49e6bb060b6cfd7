use Rattle.parity.specs.Remainder.{Remainder, bytes_of, shifted}
use Rattle.parity.proofs.register.rows.Given as goal

abbrev pub invariant-loop-place : goal.invariant-loop-place
invariant-loop-place l = Remainder (shifted 16 (bytes_of l.place l.block)) l.all
