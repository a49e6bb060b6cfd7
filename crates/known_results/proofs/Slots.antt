-- The slots of the plan of 46 and two. Assumes nothing.
use Rattle.std.proofs.Common.{◌≡◌, ℕ, ◌-◌, ◌%◌, Bool, true, false, ltb, List, [], ◌∷◌, refl, ◌∙◌, arith}
use Rattle.slot_plan.specs.Layout.{active, mode_word, word_among, place_among}
use Rattle.slot_plan.specs.Modes.{unit, active_in_unit}
use Rattle.slot_plan.specs.declared.fields.Fields.{Fields}
use Rattle.plan_formats.proofs.Masks.{every, every_at}
use Rattle.known_results.specs.Known.{OneDummy, FortySixAndTwo}

-- whether the slot at a place is active, by the lines' words and counts
active_at : List ℕ → List ℕ → ℕ → Bool
active_at ws cs p = ltb (place_among cs p % unit (word_among ws cs p)) (active_in_unit (word_among ws cs p))

all_active : every 47 (active_at (7 ∷ 2 ∷ 15 ∷ 15 ∷ []) (46 ∷ 2 ∷ 0 ∷ 0 ∷ [])) ≡ true
unfolding every active_at
all_active = refl

last_dummy : active_at (7 ∷ 2 ∷ 15 ∷ 15 ∷ []) (46 ∷ 2 ∷ 0 ∷ 0 ∷ []) 47 ≡ false
unfolding active_at
last_dummy = refl

own : (f : Fields) → FortySixAndTwo f → (slot : ℕ) → active f slot ≡ active_at (7 ∷ 2 ∷ 15 ∷ 15 ∷ []) (46 ∷ 2 ∷ 0 ∷ 0 ∷ []) (slot - 1)
unfolding active mode_word active_at
own f p slot = rw (p.words, p.counts) refl

pub one_dummy : OneDummy
one_dummy f p = (
  own f p 48 ∙ last_dummy,
  (λ slot low high. own f p slot ∙ every_at 47 (active_at (7 ∷ 2 ∷ 15 ∷ 15 ∷ []) (46 ∷ 2 ∷ 0 ∷ 0 ∷ [])) all_active (slot - 1) (omega (arith, low, high))),
)
