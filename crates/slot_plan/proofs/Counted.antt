-- The count of active slots, as a sum over the slots. Assumes nothing.
use Rattle.std.proofs.Common.{◌≡◌, ℕ, zero, suc, ◌+◌, ◌≤◌, Bool, true, false, cond, map, sum, refl, ap, ◌∙◌, arith}
use mir.Val.{bool_byte}
use Rattle.std.specs.List.{range_with_len}
use Rattle.std.proofs.lemmas.List.FromFn.{sum_by-map-range_with_len_more}
use Rattle.slot_plan.specs.Layout.{active}
use Rattle.slot_plan.specs.Views.{active_up_to}
use Rattle.slot_plan.specs.declared.fields.Fields.{Fields}

-- 1 for an active slot, 0 for a dummy slot
abbrev pub one : Fields → ℕ → ℕ
one f slot = cond (active f slot) 1 0

pub counted : (f : Fields) (n : ℕ) → sum (map (one f) (range_with_len 1 n)) ≡ active_up_to f n
counted f zero = refl
counted f (suc n) =
    let next : suc n ≡ n + 1 = omega arith in
    ap (λ (m : ℕ). sum (map (one f) (range_with_len 1 m))) next
    ∙ sum_by-map-range_with_len_more (λ x. x) (one f) 1 n (suc n) (omega arith)
    ∙ ap (λ (m : ℕ). m + one f (suc n)) (counted f n)

pub byte_is : (b : Bool) → bool_byte b ≡ cond b 1 0
byte_is true = refl
byte_is false = refl

pub byte_le : (b : Bool) → bool_byte b ≤ 5
byte_le true = omega arith
byte_le false = omega arith
