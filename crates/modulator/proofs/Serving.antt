-- How many active slots of a stream there are, slot by slot.
use Rattle.std.proofs.Common.{◌≡◌, ℕ, suc, ◌+◌, Bool, true, false, cond, [], ◌∷◌, ◌++◌, length, refl, add-one, length-append}
use Rattle.slot_plan.specs.declared.fields.Fields.{Fields}
use Rattle.modulator.specs.Carried.{serves, slots_of, serving}

module _ (p : Fields) (r : ℕ) where
  pub serving_none : serving p r 0 ≡ 0
  unfolding serving slots_of
  serving_none = refl

  pub serving_more : (n : ℕ) → serving p r (n + 1) ≡ serving p r n + cond (serves p r (n + 1)) 1 0
  unfolding serving slots_of
  serving_more n = rw add-one (step (serves p r (suc n)))
    where
      step : (b : Bool) → length (slots_of p r n ++ cond b (suc n ∷ []) []) ≡ length (slots_of p r n) + cond b 1 0
      step true = length-append (slots_of p r n) (suc n ∷ [])
      step false = length-append (slots_of p r n) []
