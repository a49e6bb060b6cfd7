-- Words sorted one by one.
use Rattle.std.proofs.Common.{◌≡◌, ℕ, ◌+◌, ◌<◌, Bool, true, false, cond, not, List, [], ◌∷◌, ◌++◌, length, get_or, take, filter, sym, refl, ap, ◌∙◌}
use Rattle.std.proofs.lemmas.List.Elements.{filter_more}
use Rattle.std.proofs.lemmas.List.Sums.{fold_more}
use Rattle.modulate_job.specs.Flags.{is_flag, Sorted}

turned : (b : Bool) (l : List (List ℕ)) → cond b [] l ≡ cond (not b) l []
turned true l = refl
turned false l = refl

-- one word more
pub sorted_more :
    (texts : List (List ℕ)) (i : ℕ) (text : List ℕ) (asked next : List (List ℕ)) (flag before after : Bool) → i < length texts →
    text ≡ get_or texts i [] → Sorted (take i texts) asked before → flag ≡ is_flag text → next ≡ asked ++ cond flag [] (text ∷ []) →
    after ≡ cond flag true before → Sorted (take (i + 1) texts) next after
sorted_more texts i text asked next flag before after within here s f a p =
    let test : List ℕ → Bool = λ word. not (is_flag word) in
    let last : cond flag [] (text ∷ []) ≡ cond (test (get_or texts i [])) (get_or texts i [] ∷ []) [] =
    turned flag (text ∷ []) ∙ ap (λ (b : Bool). cond (not b) (text ∷ []) []) f ∙ ap (λ (t : List ℕ). cond (test t) (t ∷ []) []) here in
    record {
      others = a ∙ ap (λ (l : List (List ℕ)). l ++ cond flag [] (text ∷ [])) s.others
          ∙ ap (λ (l : List (List ℕ)). filter test (take i texts) ++ l) last ∙ sym (filter_more test texts i [] within);
      flag = p ∙ ap (λ (b : Bool). cond b true before) f ∙ ap (λ (t : List ℕ). cond (is_flag t) true before) here
          ∙ ap (λ (b : Bool). cond (is_flag (get_or texts i [])) true b) s.flag
          ∙ sym (fold_more (λ seen word. cond (is_flag word) true seen) false texts i [] within);
    }
