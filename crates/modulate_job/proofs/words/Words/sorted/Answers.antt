use Rattle.std.proofs.Common.{rules, append-nil, Vec, String, Global, ◌≡◌, ℕ, ◌<◌, ◌++◌, ◌∷◌, [], Bool, true, false, codes, List, map, length, vec_items, string_bytes, sym, refl, ap, ◌∙◌}
use Rattle.std.proofs.lemmas.List.{length-map, map-append}
use Rattle.std.specs.Str.{bytes_eq}
use Rattle.modulate_job.specs.Flags.{is_flag}
use Rattle.modulate_job.proofs.Sorting.{sorted_more}
use Rattle.modulate_job.proofs.Spelt.{text_at}
use Rattle.modulate_job.proofs.words.Words.sorted.Goals as goal
use Rattle.modulate_job.proofs.words.Words.sorted.Goals.{then-eq, else-eq+in_ok-clone+in_ok-push}

pub loop-word-preserved : goal.loop-word-preserved
unfolding is_flag
loop-word-preserved c =
    let words = c.args.words.now in
    let texts : List (List ℕ) = map string_bytes words in
    let i = c.loop-word.word-index in
    let word = c.word-item.result in
    let before : List (List ℕ) = map string_bytes (vec_items c.loop-word.asked) in
    let after : List (List ℕ) = map string_bytes (vec_items c.if-eq.asked) in
    let within : i < length texts = rw length-map c.loop-word-test.true in
    let here = text_at words i word (string_bytes word) c.loop-word-test.true c.word-item.is refl in
    let same : c.eq.result ≡ is_flag (string_bytes word) = c.eq.ensures ∙ ap (λ (t : List ℕ). bytes_eq t (codes "--progress")) c.as_str.ensures.value in
    let more = λ (flag : Bool). sorted_more texts i (string_bytes word) before after flag c.loop-word.progress c.if-eq.progress within here c.loop-word.invariant in
    elim c.if-eq.branch [
      | then-eq w ↦ more true (sym w.if-eq.true ∙ same) (ap (λ (v : Vec (String Global) Global). map string_bytes (vec_items v)) w.asked-is ∙ sym (append-nil before)) w.progress-is
      | else-eq+in_ok-clone+in_ok-push w ↦
          let cloned : string_bytes w.in_ok-clone.field-0 ≡ string_bytes word = search rules in
          more false (sym w.if-eq.false ∙ same)
          (ap (λ (v : Vec (String Global) Global). map string_bytes (vec_items v)) w.asked-is ∙ ap (map string_bytes) w.in_ok-push.ensures.items
          ∙ map-append string_bytes (vec_items c.loop-word.asked) (w.in_ok-clone.field-0 ∷ []) ∙ ap (λ (t : List ℕ). before ++ (t ∷ [])) cloned)
          w.progress-is
    ]
