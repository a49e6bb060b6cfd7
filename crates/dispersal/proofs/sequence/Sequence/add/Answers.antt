use Rattle.std.proofs.Common.{◌≡◌, ℕ, ◌+◌, ◌-◌, ◌*◌, ◌/◌, ◌≤◌, List, length, take, drop, sym, refl, ap, ◌∙◌, add-zero, arith, length-append, length-drop, length-take}
use borrow.Rule.Slice.PartMut.{put_mid}
use Rattle.std.proofs.lemmas.List.{take_all, length-take-le}
use Rattle.dispersal.specs.Stages.{At, added}
use Rattle.dispersal.proofs.Added.{added_front, rest_left, twice}
use Rattle.dispersal.proofs.sequence.Sequence.add.Goals as goal

pub loop-group-init : goal.loop-group-init
unfolding added
loop-group-init c = (λ n here. (rw add-zero here, refl), refl)

pub loop-group-preserved : goal.loop-group-preserved
loop-group-preserved c =
    let l = c.loop-group in
    let xs = c.args.bytes.now in
    let a = 8 * l.group in
    let eight : a + 8 - a ≡ 8 = omega arith in
    let next : 8 * (l.group + 1) ≡ a + (a + 8 - a) = omega arith in
    let place : (n : ℕ) → At c.args.self.now.window n → At c.add_group.new.self.window (n + 8 * (l.group + 1)) =
    λ n here. let on : n + a + 8 ≡ n + 8 * (l.group + 1) = omega arith in rw on at (c.add_group.ensures.place (n + a) (l.invariant.0 n here).0) in
    rw next (
      λ n here. (
        rw (sym next) (place n here),
        added_front n a (a + 8 - a) xs l.bytes c.add_group.new.group (omega arith) l.auto.bytes (l.invariant.0 n here).1 l.invariant.1
            (c.add_group.ensures.bytes (n + a) (l.invariant.0 n here).0),
      ),
      rest_left a (a + 8 - a) xs l.bytes c.add_group.new.group (omega arith) l.invariant.1 (omega arith),
    )

pub returns : goal.returns
returns c =
    let l = c.loop-group in
    let xs = c.args.bytes.now in
    let a = 8 * (length xs / 8) in
    let k = length l.bytes - a in
    let ys = c.add_each.new.bytes in
    let at : 8 * l.group ≡ a = omega arith in
    let room : k ≤ length (drop a l.bytes) = omega (arith, length-drop a l.bytes) in
    let size : length (take k (drop a l.bytes)) ≡ k = length-take-le k (drop a l.bytes) room in
    let whole : length (put_mid a k l.bytes ys) ≤ a + k = simp (length-append, length-take, length-drop) (omega (arith, c.add_each.auto.bytes)) in
    let reached : (n : ℕ) → At c.args.self.now.window n → At l.self.window (n + a) × (take a l.bytes ≡ added n (take a xs)) =
    λ n here. rw at at (l.invariant.0 n here) in
    record {
      bytes = λ n here.
          sym (take_all (a + k) (put_mid a k l.bytes ys) whole)
          ∙ (added_front n a k xs l.bytes ys (omega arith) l.auto.bytes (reached n here).1 (rw at at l.invariant.1)
          (c.add_each.ensures.bytes (n + a) (reached n here).0)
          ∙ ap (λ (zs : List ℕ). added n zs) (take_all (a + k) xs (omega arith)));
      place = λ n here.
          let end : n + a + length (take k (drop a l.bytes)) ≡ n + length xs = omega (arith, size) in
          rw end at (c.add_each.ensures.place (n + a) (reached n here).0);
      twice = twice;
    }
