use Rattle.std.proofs.Common.{◌≡◌, ℕ, ◌+◌, ◌-◌, ◌≤◌, length, get_or, take, drop, sym, ap, ◌∙◌, subst, arith}
use borrow.Rule.Slice.PartMut.{put_mid}
use lib.Bits.{bit_xor}
use Rattle.std.proofs.lemmas.List.Edits.{length-between, get_or-between}
use Rattle.dispersal.specs.Stages.{At, sequence, added}
use Rattle.dispersal.proofs.Added.{length_added, get_or_added}
use Rattle.super_frame.proofs.Overwritten.{put_below, put_in, put_above}
use Rattle.super_frame.proofs.reading.take_off.Goals as goal

pub returns : goal.returns
returns c =
    let words = c.args.words.now in
    let start = c.args.start in
    let a = start + 1 in
    let k = start + 204 - a in
    let now = c.add.new.bytes in
    let part = take k (drop a words) in
    let many : length part ≡ k = length-between words a (start + 204) c.requires in
    let fits : a + k ≤ length words = omega (arith, c.requires) in
    record {
      off = λ n at.
          let is : now ≡ added n part = c.add.ensures.bytes n at in
          let long : length now ≡ k = ap length is ∙ (length_added n part ∙ many) in
          record {
            here = λ i h.
                let p : start + (i + 1) ≡ a + i = omega arith in
                ap (λ (j : ℕ). get_or (put_mid a k words now) j 0) p
                ∙ (put_in a k words now 0 fits long i (omega arith)
                ∙ (ap (λ xs. get_or xs i 0) is
                ∙ (get_or_added n part i (omega (arith, many))
                ∙ ap (λ (x : ℕ). bit_xor x (sequence (n + i)))
                (get_or-between words a (start + 204) i 0 (omega arith) ∙ ap (λ (j : ℕ). get_or words j 0) (sym p)))));
            below = λ place h. put_below a k words now 0 fits long place (omega arith);
            above = λ place h. put_above a k words now 0 fits long place (omega arith);
          };
      place = λ n at.
          let next : n + k + 1 ≡ n + 204 = omega arith in
          subst (λ (m : ℕ). At c.skip.new.self.window m) next
          (c.skip.ensures (n + k) (subst (λ (m : ℕ). At c.add.new.self.window (n + m)) many (c.add.ensures.place n at)));
    }
