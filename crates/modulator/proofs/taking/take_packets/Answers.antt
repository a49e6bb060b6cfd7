use Rattle.std.proofs.Common.{◌<◌, length, ◌≡◌, ℕ, ◌*◌, ◌%◌, ◌+◌, subst, arith}
use Rattle.modulator.specs.Progress.{NextPacket}
use Rattle.modulator.proofs.Advancing.{TakenAt, taken_none, at_more, at_all}
use Rattle.modulator.proofs.Rows.{rows_more}
use Rattle.modulator.proofs.taking.take_packets.Goals as goal

pub loop-place-init : goal.loop-place-init
loop-place-init g c =
    record {
      taken = record {
        frame = 0;
        slot = 0;
        below = omega (arith, c.slots-slots.ensures.value, c.slots-slots.ensures.bound.0);
        is = omega arith;
        taken = taken_none c.args.plan.now.fields (g.F.Feed.lists c.args.feed.now) c.args.packets.now;
      };
      rows = c.told-packets;
    }

pub loop-place-preserved : goal.loop-place-preserved
loop-place-preserved g c =
    let p = c.args.plan.now.fields in
    let before = g.F.Feed.lists c.loop-place.feed in
    let after = g.F.Feed.lists c.take_slot.new.feed in
    let place = c.loop-place.place in
    let within : place < length c.loop-place.packets = omega (arith, c.loop-place.auto.packets) in
    record {
      taken = at_more p (g.F.Feed.lists c.args.feed.now) place before c.loop-place.packets c.loop-place.invariant.taken c.take_slot.new.packet after within
          (subst (λ (n : ℕ). NextPacket p (place % n + 1) before c.take_slot.new.packet after) c.slots-slots.ensures.value c.take_slot.ensures.taken);
      rows = rows_more 188 place c.loop-place.packets c.take_slot.new.packet c.loop-place.invariant.rows c.take_slot.ensures.size;
    }

pub returns-clause-taken : goal.returns-clause-taken
returns-clause-taken g c =
    let p = c.args.plan.now.fields in
    let all : c.loop-place.place ≡ 8 * p.slots = omega (arith, c.requires, c.loop-place.auto.place-end) in
    at_all p (g.F.Feed.lists c.args.feed.now) (g.F.Feed.lists c.loop-place.feed) c.loop-place.packets
    (subst (λ (k : ℕ). TakenAt p (g.F.Feed.lists c.args.feed.now) k (g.F.Feed.lists c.loop-place.feed) c.loop-place.packets) all c.loop-place.invariant.taken)
