use Rattle.std.proofs.Common.{rules, ℕ, List, ◌∷◌, ◌^◌, drop, sym, subst, arith, length-set, ◌∙◌}
use Rattle.std.specs.Str.Iter.{split_text, split_has_more}
use Rattle.std.specs.Str.Pattern.{FindsChar, IsSplitAtFirstMatch}
use Rattle.modulate_job.specs.Numbers.{Number}
use Rattle.modulate_job.specs.Packets.{Counts}
use Rattle.modulate_job.proofs.Commas.{cut_before, cut_after, count_more, Left}
use Rattle.modulate_job.proofs.counts.counts.Goals as goal

pub returns-in_err-count : goal.returns-in_err-count
returns-in_err-count c =
    let inv = c.loop-count.invariant in
    let now = c.loop-count.words in
    let next = c.next.new.self in
    let word = c.in_ok-next.field-0.now in
    let i = c.loop-count.count-index in
    let steps = c.in_ok-next.ensures.steps in
    let cut : IsSplitAtFirstMatch (FindsChar 44) (split_text now) word (split_has_more next) (split_text next) =
    rw inv.comma at steps.1.1 in
    let wrong : (n : ℕ) → Number (2 ^ 16) word n → ⊥ = search rules in
    rw c.from_residual-in_err-count.ensures
    (λ ns long all.
    wrong _ (cut_after (split_text now) word (split_text next) (split_has_more next) cut i ns (omega arith)
    (subst (λ (b : _). Left b (split_text now) (drop i ns)) (sym steps.0) (inv.back ns long all))).0)

pub loop-count-preserved : goal.loop-count-preserved
loop-count-preserved c =
    let inv = c.loop-count.invariant in
    let now = c.loop-count.words in
    let next = c.next.new.self in
    let word = c.in_ok-next.field-0.now in
    let counts = c.loop-count.count-items in
    let i = c.loop-count.count-index in
    let n = c.in_ok-count.field-0 in
    let steps = c.in_ok-next.ensures.steps in
    let cut : IsSplitAtFirstMatch (FindsChar 44) (split_text now) word (split_has_more next) (split_text next) =
    rw inv.comma at steps.1.1 in
    let number : Number (2 ^ 16) word n = search rules in
    record {
      comma = steps.1.0 ∙ inv.comma;
      eight = length-set counts i n ∙ inv.eight;
      on = λ ns left.
          subst (λ (l : List ℕ). Counts c.args.text.now l) (sym (count_more counts i n ns (omega arith)))
          (inv.on (n ∷ ns) (subst (λ (b : _). Left b (split_text now) (n ∷ ns)) steps.0
          (cut_before (split_text now) word (split_text next) (split_has_more next) cut n number ns left)));
      back = λ ns long all.
          (cut_after (split_text now) word (split_text next) (split_has_more next) cut i ns (omega arith)
          (subst (λ (b : _). Left b (split_text now) (drop i ns)) (sym steps.0) (inv.back ns long all))).1;
    }
