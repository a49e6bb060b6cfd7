use Rattle.std.proofs.Common.{◌≡◌, ℕ, ◌+◌, ◌*◌, List, length, take, drop, refl, ap, ◌∙◌, subst, arith}
use Rattle.std.proofs.lemmas.List.{take_all, length-drop}
use Rattle.dispersal.specs.Stages.{At, added}
use Rattle.super_frame.specs.Parts.{part, Put}
use Rattle.super_frame.proofs.Staging.{staged_more}
use Rattle.super_frame.proofs.put.put_word.Goals as goal

-- what is sent of a word
sent : (word : List ℕ) → length word ≡ 204 → take 203 (drop 1 word) ≡ drop 1 word
sent word size = take_all 203 (drop 1 word) (omega (arith, length-drop 1 word))

sent_length : (word : List ℕ) → length word ≡ 204 → length (take 203 (drop 1 word)) ≡ 203
sent_length word size = ap length (sent word size) ∙ (length-drop 1 word ∙ omega arith)

pub returns : goal.returns
returns c =
    let word = c.args.word.now in
    let before = c.args.bytes.now in
    let after = c.put_dispersed.new.bytes in
    let start = part c.args.slots c.args.frame c.args.slot in
    let put : (n : ℕ) → At c.args.sequence.now.window n → Put (added n (drop 1 word)) before start after =
    λ n at.
    subst (λ (to : ℕ). Put (added n (drop 1 word)) before to after) c.part_start-start.ensures
    (subst (λ (xs : List ℕ). Put (added n xs) before c.part_start-start.result after) (sent word c.told-word) (c.put_dispersed.ensures.put n at)) in
    record {
      put = put;
      place = λ n at.
          let next : n + 203 + 1 ≡ n + 204 = omega arith in
          subst (λ (m : ℕ). At c.skip.new.self.window m) next
          (c.skip.ensures (n + 203)
          (subst (λ (m : ℕ). At c.put_dispersed.new.sequence.window (n + m)) (sent_length word c.told-word) (c.put_dispersed.ensures.place n at)));
      staged = λ words own at.
          staged_more c.args.slots c.args.frame c.args.slot ((c.args.frame * c.args.slots + c.args.slot) * 204) words word before after c.requires.2 c.told-word own refl (put _ at);
    }
