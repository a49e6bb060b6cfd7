use Rattle.std.proofs.Common.{◌≡◌, ℕ, ◌<◌, Bool, true, false, List, [], length, get_or, MatchBool, Decides, refl, sym, ◌∙◌, arith, rules}
use Rattle.std.proofs.lemmas.Iterator.{cases_from_all, YieldsList-from_slice}
use Rattle.std.specs.List.{AllWithin, HoldsAt}
use Rattle.std.specs.Simd.{first_chunks}
use borrow.Author.Tests.{tests}
use Rattle.stored_feed.specs.Files.{records, RecordRule}
use Rattle.stored_feed.proofs.Chunks.{record_byte, record_stream}
use Rattle.stored_feed.proofs.records.are_sound.Goals as goal

abbrev Sound : List ℕ → Type 0
Sound bytes = (get_or bytes 0 0 < 8) × (get_or bytes 1 0 ≡ 0x47)

sound :
    (file : List ℕ) (chunks : List (List ℕ)) (b : Bool) →
    chunks ≡ first_chunks 189 (records file) file → length chunks ≡ records file →
    MatchBool b (AllWithin Sound chunks 0 (length chunks)) ((k : ℕ) × (k < length chunks) × HoldsAt (λ bytes. Sound bytes → ⊥) chunks k) →
    Decides b ((i : ℕ) → i < records file → RecordRule file i)
sound file chunks true cut long all = (
  λ _ i here.
      let own = all i [] (omega arith) (omega arith) in (
        omega (arith, own.0, record_stream file chunks cut i here),
        sym (record_byte file chunks cut i here 1 (omega arith)) ∙ own.1,
      ),
  λ _. refl,
)
sound file chunks false cut long some = (
  λ none. absurd (search rules),
  λ all.
      let here : some.0 < records file = omega (arith, some.1) in
      let rule = all some.0 here in
      absurd (some.2 [] (
        omega (arith, rule.0, record_stream file chunks cut some.0 here),
        record_byte file chunks cut some.0 here 1 (omega arith) ∙ rule.1,
      )),
)

pub returns : goal.returns
returns c =
    let chunks = c.as_chunks.result.0.now in
    sound c.args.file.now chunks c.all.result c.as_chunks.ensures.front c.as_chunks.ensures.front_len
    (cases_from_all _ _ _ Sound (λ bytes. Sound bytes → ⊥) c.all.ensures.ran (YieldsList-from_slice chunks cc)
    (λ x q k. search (rules, tests))
    (λ x q k. search (rules, tests)))
