use Rattle.std.proofs.Common.{sym, rules}
use denote.Enum.Bare.{same_true, same_false}
use Rattle.slot_plan.specs.contracts.slots.Role.{the_type}
use Rattle.modulator.proofs.Slots.{next_active, next_other}
use Rattle.modulator.proofs.taking.take_slot.Goals.{in_default-via-in-None-1, in_default-via-in-Some+else-eq}
use Rattle.modulator.proofs.taking.take_slot.Goals as goal

pub returns-then-eq-clause-taken : goal.returns-then-eq-clause-taken
returns-then-eq-clause-taken g c =
    next_active c.args.plan.now.fields c.args.slot c.in-Some.told c.in-Some.ensures.2 (g.F.Feed.lists c.args.feed.now)
    c.next_packet.result (g.F.Feed.lists c.next_packet.new.feed)
    (same_true the_type (search rules) _ _ (sym c.if-eq.ensures))
    c.next_packet.ensures.packet c.next_packet.ensures.rest

pub returns-in_default-clause-taken : goal.returns-in_default-clause-taken
returns-in_default-clause-taken g c =
    elim c.in_default.branch [
      | in_default-via-in-None-1 w ↦
          search rules
      | in_default-via-in-Some+else-eq w ↦
          next_other c.args.plan.now.fields c.args.slot w.in-Some.told w.in-Some.ensures.2 (g.F.Feed.lists c.args.feed.now)
          c.args.packet.now (same_false the_type _ _ (sym w.if-eq.ensures))
    ]
