use Rattle.std.proofs.Common.{rules, ◌≡◌, ℕ, ◌+◌, ◌*◌, ◌<◌, ◌++◌, ◌∷◌, List, [], drop, map, length, get_or, vec_items, string_bytes, Bor, sym, refl, ap, ◌∙◌, subst, arith, below_more, length-append}
use Rattle.std.proofs.Math.Seq.{get_or-append_seam}
use Rattle.std.proofs.lemmas.List.{length-map, length-drop, get_or_append_left}
use Rattle.std.proofs.lemmas.Result.{err_from_is_err_and}
use Rattle.std.specs.Slice.Iter.{chunks_rest}
use Rattle.modulate_job.specs.Jobs.{Numbered, AsksChange}
use Rattle.modulate_job.specs.declared.misuse.Misuse.TheVariants.{At}
use Rattle.run_inputs.specs.declared.change.Change.{Change}
use Rattle.modulate_job.proofs.Spelt.{text_of, left_more}
use Rattle.modulate_job.proofs.pairs.pairs.Goals as goal

pub returns-in_err-ok_or : goal.returns-in_err-ok_or
returns-in_err-ok_or c =
    let words = c.args.words.now in
    let n = length (vec_items c.loop-pair.changes) in
    let pair = c.in-Some.pair.now in
    let left = chunks_rest c.next.new.self in
    let cut : drop (2 * n) words ≡ pair ++ left = sym c.loop-pair.invariant.left ∙ c.in-Some.ensures.steps.1.0 in
    let at = text_of words pair left (2 * n) 0 (2 * n) c.at-item.result c.as_str-at.result.now cut (omega arith) (omega arith) c.at-item.is c.as_str-at.ensures.value in
    let wrong : (m : ℕ) → Numbered c.as_str-at.result.now m → ⊥ = search rules in
    let within : 2 * n + 1 < length (map string_bytes words) = rw length-map (omega (arith, ap length cut, length-append pair left, length-drop (2 * n) words)) in
    let fault : c.in_err-ok_or.field-0.0 ≡ At c.as_str-at.result = grind arith in
    let p = err_from_is_err_and c.from_residual.result c.from_residual.ensures.1 in
    rw (p.1, p.2, fault) (n, within, at, wrong)

pub loop-pair-preserved : goal.loop-pair-preserved
loop-pair-preserved c =
    let words = c.args.words.now in
    let texts : List (List ℕ) = map string_bytes words in
    let before : List (Change (Bor (List ℕ))) = vec_items c.loop-pair.changes in
    let after : List (Change (Bor (List ℕ))) = vec_items c.push.new.self in
    let n = length before in
    let pair = c.in-Some.pair.now in
    let left = chunks_rest c.next.new.self in
    let next = c.in_ok-ok_or.field-0 in
    let cut : drop (2 * n) words ≡ pair ++ left = sym c.loop-pair.invariant.left ∙ c.in-Some.ensures.steps.1.0 in
    let two : length pair ≡ 2 = omega (arith, c.in-len2.len_at_least, c.in-len2.len_below) in
    let at = text_of words pair left (2 * n) 0 (2 * n) c.at-item.result c.as_str-at.result.now cut (omega arith) (omega arith) c.at-item.is c.as_str-at.ensures.value in
    let plan = text_of words pair left (2 * n) 1 (2 * n + 1) c.plan-item.result c.as_str-in-loop-pair.result.now cut (omega arith) refl c.plan-item.is c.as_str-in-loop-pair.ensures.value in
    let asks : AsksChange c.as_str-at.result.now c.as_str-in-loop-pair.result.now next = search rules in
    let put : after ≡ before ++ (next ∷ []) = c.in_ok-push.ensures.items in
    let long : length after ≡ n + 1 = ap length put ∙ length-append before (next ∷ []) in
    let P : ℕ → Type 0 = λ j. (none : Change (Bor (List ℕ))) → AsksChange (get_or texts (2 * j) []) (get_or texts (2 * j + 1) []) (get_or after j none) in
    record {
      two = c.in-Some.ensures.steps.0 ∙ c.loop-pair.invariant.two;
      within = omega (arith, long, ap length cut, length-append pair left, length-drop (2 * n) words);
      left = left_more words pair left n cut two ∙ ap (λ (m : ℕ). drop (2 * m) words) (sym long);
      each = λ j none below.
          below_more P n
          (λ i h d.
          subst (λ (x : Change (Bor (List ℕ))). AsksChange (get_or texts (2 * i) []) (get_or texts (2 * i + 1) []) x)
          (sym (ap (λ (l : List (Change (Bor (List ℕ)))). get_or l i d) put ∙ get_or_append_left before (next ∷ []) d i h))
          (c.loop-pair.invariant.each i d h))
          (λ d.
          subst (λ (x : Change (Bor (List ℕ))). AsksChange (get_or texts (2 * n) []) (get_or texts (2 * n + 1) []) x)
          (sym (ap (λ (l : List (Change (Bor (List ℕ)))). get_or l n d) put ∙ get_or-append_seam before next [] d))
          (subst (λ (t : List ℕ). AsksChange (get_or texts (2 * n) []) t next) plan
          (subst (λ (t : List ℕ). AsksChange t c.as_str-in-loop-pair.result.now next) at asks)))
          j (subst (λ (m : ℕ). j < m) long below) none;
    }
