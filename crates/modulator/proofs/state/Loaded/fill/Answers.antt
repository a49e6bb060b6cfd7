use Rattle.std.proofs.Common.{◌≡◌, ℕ, ◌-◌, ◌*◌, Ok, Err, sym, refl, ap, ◌∙◌, arith}
use Rattle.slot_plan.specs.Views.{active_up_to}
use Rattle.slot_plan.specs.declared.fields.Fields.{Fields}
use Rattle.modulator.specs.Fills.{Fill, Counted}
use Rattle.modulator.specs.declared.fault.ModulatorFault.TheVariants.{Length}
use Rattle.modulator.specs.declared.state.Tally.{Tally}
use Rattle.modulator.proofs.Lossless.{fill_continues}
use Rattle.modulator.proofs.Tallies.{placed_all}
use Rattle.modulator.proofs.state.Loaded.fill.Goals as goal

pub returns-then-out-super_frame_size : goal.returns-then-out-super_frame_size
returns-then-out-super_frame_size g c =
    let m = c.args.self.now in
    let lists = g.F.Feed.lists c.args.feed.now in
    let out = c.args.out.now in
    let done : Fill m lists out (Err Length) out lists =
    record {
      wrong = λ same. omega (arith, same, c.plan-plan.ensures.kept.frame);
      named = refl;
      untouched = refl;
      untaken = λ r. refl;
    } in
    record { fill = done; run = fill_continues m lists out (Err Length) out lists done; kept = refl }

pub overflow_sub-placed : goal.overflow_sub-placed
overflow_sub-placed g c = omega (arith, placed_all c.write.ensures.2)

pub returns : goal.returns
returns g c =
    let m = c.args.self.now in
    let before = g.F.Feed.lists c.args.feed.now in
    let after = g.F.Feed.lists c.write.new.feed in
    let buffer = c.args.out.now in
    let out = c.write.new.out in
    let sent = c.write.ensures.0 in
    let filled = c.write.ensures.2 in
    let tally : Tally = record { placed = c.all_waiting-before.result - c.all_waiting.result; nulls = c.saturating_sub.result } in
    let active : 8 * active_up_to sent.plan sent.plan.slots ≡ c.from.result * c.from-2.result =
    ap (λ (p : Fields). 8 * active_up_to p p.slots) c.write.ensures.1 ∙ cc in
    let counted : Counted sent tally =
    record {
      placed_packets = omega (arith, placed_all filled);
      null_packets = c.saturating_sub.ensures ∙ ap (λ (n : ℕ). n - tally.placed) (sym active);
    } in
    let done : Fill m before buffer (Ok tally) out after =
    (omega (arith, c.plan-plan.ensures.kept.frame), (sent, filled, counted)) in
    record { fill = done; run = fill_continues m before buffer (Ok tally) out after done; kept = tt }
