-- What the rules of a plan say of its numbers in a format. Assumes nothing.
use Rattle.std.proofs.Common.{◌≡◌, ℕ, zero, suc, ◌-◌, ◌^◌, ◌<◌, ◌≤◌, List, get_or, sym, ap, ◌∙◌, inl, inr, arith}
use Rattle.std.proofs.lemmas.List.{get_or_past, length-map}
use Rattle.std.proofs.lemmas.Bool.{cases_lt, cases_eq}
use Rattle.slot_plan.specs.Layout.{Shaped, word, words, counts}
use Rattle.slot_plan.specs.Rules.{Valid, unused}
use Rattle.slot_plan.specs.declared.fault.PlanFault.TheVariants.{SlotCount, ModeWord, CountSum, SlotStream, SpareBits}
use Rattle.slot_plan.specs.declared.fields.LineNumbers.{LineNumbers}
use Rattle.slot_plan.specs.declared.fields.Fields.{Fields}
use Rattle.plan_formats.specs.Body.{Small}
use Rattle.plan_formats.specs.Formats.{tmcc_widths}

-- what stands at number k + 1 stands at place k
at_place : (xs : List ℕ) (k : ℕ) → get_or xs (suc k - 1) 0 ≡ get_or xs k 0
at_place xs k = ap (λ (n : ℕ). get_or xs n 0) (omega arith)

module _ (f : Fields) (shaped : Shaped f) (v : Valid f) where
  -- beyond the frame every stream number is 0
  pub valid_beyond : (k : ℕ) → f.slots ≤ k → get_or f.streams k 0 ≡ 0
  valid_beyond k h =
      elim (cases_lt k 48) [
        | inl l ↦ sym (at_place f.streams k) ∙ (v (SlotStream (suc k)) (omega arith) (omega (arith, l))).1 (omega (arith, h))
        | inr l ↦
            get_or_past f.streams k 0 (omega (arith, l, shaped.1))
      ]

  small_word : (k : ℕ) → get_or (words f) k 0 < 2 ^ 4
  small_word k =
      elim (cases_lt k 4) [
        | inl l ↦
            elim (cases_eq (word f (suc k)) unused) [
              | inl e ↦ omega (arith, e, at_place (words f) k)
              | inr used ↦
                  let rule = v (ModeWord (suc k)) (omega arith) (omega (arith, l)) used in
                  omega (arith, rule.1, at_place (words f) k)
            ]
        | inr l ↦
            omega (arith, get_or_past (words f) k 0 (omega (arith, l, length-map f.lines (λ (l : LineNumbers). l.word), shaped.0)))
      ]

  -- a line's count is at most the frame
  small_count : (k : ℕ) → get_or (counts f) k 0 < 2 ^ 6
  small_count zero = omega (arith, v CountSum, (v SlotCount).1)
  small_count (suc zero) = omega (arith, v CountSum, (v SlotCount).1)
  small_count (suc (suc zero)) = omega (arith, v CountSum, (v SlotCount).1)
  small_count (suc (suc (suc zero))) = omega (arith, v CountSum, (v SlotCount).1)
  small_count (suc (suc (suc (suc k)))) = omega (arith, get_or_past (counts f) (suc (suc (suc (suc k)))) 0 (omega (arith, length-map f.lines (λ (l : LineNumbers). l.count), shaped.0)))

  small_stream : (k : ℕ) → get_or f.streams k 0 < 2 ^ 3
  small_stream k =
      elim (cases_lt k f.slots) [
        | inl l ↦
            let rule = (v (SlotStream (suc k)) (omega arith) (omega (arith, l, (v SlotCount).1))).0 (omega (arith, l)) in
            omega (arith, rule.0, at_place f.streams k)
        | inr l ↦
            omega (arith, valid_beyond k l)
      ]

  -- a plan's numbers fit the bits that the TMCC has for them
  pub valid_small : Small tmcc_widths f
  valid_small =
      record {
        words = λ h k. small_word k;
        counts = λ h k. small_count k;
        streams = λ h k l. small_stream k;
        control = λ h. (v SpareBits).0;
        expanded = λ h. (v SpareBits).1;
      }
