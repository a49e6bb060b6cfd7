use Rattle.std.proofs.Common.{◌≡◌, ℕ, List, length, replicate, Result, Ok, Err, refl, sym, ◌∙◌}
use Rattle.std.proofs.lemmas.Bool.{false≢true}
use Rattle.outer_code.specs.Calls.{DataEncoded}
use Rattle.outer_code.specs.declared.fault.CodeFault.{CodeFault}
use Rattle.super_frame.specs.Carried.{IsSlotWord, zeros}
use Rattle.super_frame.proofs.words.carried.Goals as goal

pub returns-else-is_active : goal.returns-else-is_active
unfolding zeros
returns-else-is_active c =
    let off = sym c.is_active.ensures ∙ c.if-is_active.false in
    record {
      carried = record { active_slot = λ on. absurd (false≢true (sym off ∙ on)); dummy_slot = λ _. refl };
      only = λ other carries. carries.dummy_slot off;
      size = refl;
    }

-- a word that is coded is the only one of its data
only_coded :
    (content w after : List ℕ) (answer : Result (Unit {0}) CodeFault) → length content ≡ 188 → length w ≡ 204 →
    DataEncoded 204 188 content w answer after → (other : List ℕ) → IsSlotWord content other → other ≡ after
only_coded content w after (Ok _) few room coded = coded.2
only_coded content w after (Err e) few room coded = absurd (coded.0 (few, room))

pub returns-then-is_active-clause-only : goal.returns-then-is_active-clause-only
returns-then-is_active-clause-only c = λ other carries.
    only_coded c.args.packet.now (replicate 204 0) _ c.encode_data.result c.told-packet refl c.encode_data.ensures other (carries.active_slot (sym c.is_active.ensures ∙ c.if-is_active.true))
