use Rattle.std.proofs.Common.{length, ◌*◌, ap, ◌≡◌, ℕ, List, Ok, Err, Result, arith, MatchResult}
use Rattle.std.specs.List.{flat_map}
use Rattle.slot_plan.specs.declared.fields.Fields.{Fields}
use Rattle.super_frame.specs.Carried.{Fits, Written}
use Rattle.modulator.proofs.Finished.{finished}
use Rattle.modulator.proofs.state.Loaded.write.Goals as goal

-- a call whose lengths are right is done
done :
    {E : Type 0} (p : Fields) (tmcc packets before out : List ℕ) (answer : Result (Unit {0}) E) → Fits p packets before →
    MatchResult answer (λ _. Fits p packets before × Written p tmcc packets out) (λ _. (Fits p packets before → ⊥) × (out ≡ before)) → Written p tmcc packets out
done p tmcc packets before out (Ok _) fits cases = cases.1
done p tmcc packets before out (Err _) fits cases = absurd (cases.0 fits)

pub returns : goal.returns
returns g c =
    let p = c.args.plan.now.fields in
    let packets = c.take_packets.new.packets in
    let out = c.write.new.out in
    let long : length packets ≡ 8 * p.slots = omega (arith, c.take_packets.auto.packets, c.requires.room) in
    let whole : length (flat_map (λ x. x) packets) ≡ 188 * (8 * p.slots) =
    omega (arith, c.as_flattened.ensures.len, long, ap (λ (xs : List ℕ). length xs) c.as_flattened.ensures.value) in
    let answered = rw c.as_flattened.ensures.value at c.write.ensures.written in
    finished p (g.F.Feed.lists c.args.feed.now) (g.F.Feed.lists c.take_packets.new.feed) packets c.take_packets.ensures.taken long
    c.take_packets.ensures.rows c.args.self.now c.word-tmcc.result out c.requires.kept c.word-tmcc.ensures.word
    (done p c.word-tmcc.result (flat_map (λ x. x) packets) c.args.out.now out c.write.result (whole, c.requires.size) answered)
