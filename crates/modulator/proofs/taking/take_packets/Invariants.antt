use Rattle.modulator.proofs.Advancing.{TakenAt}
use Rattle.modulator.proofs.Rows.{RowsOf}
use Rattle.modulator.proofs.taking.take_packets.Given as goal

abbrev pub invariant-loop-place : goal.invariant-loop-place
invariant-loop-place g l = record {
  taken : TakenAt l.plan.fields (g.F.Feed.lists l.initial.feed) l.place (g.F.Feed.lists l.feed) l.packets;
  rows : RowsOf 188 l.packets;
}
