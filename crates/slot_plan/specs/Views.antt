-- What a plan tells of its lines, slots and streams. Assumes nothing.
use Rattle.std.specs.Prelude.{◌≡◌, ℕ, zero, suc, ◌+◌, ◌%◌, ◌≤◌, Bool, true, false, cond, nat_lt}
use Rattle.slot_plan.specs.Layout.{stream, active, mode_word}
use Rattle.slot_plan.specs.Modes.{unit, active_in_unit, word_of}
use Rattle.slot_plan.specs.declared.fields.Fields.{Fields}
use Rattle.slot_plan.specs.declared.slots.Role.{Role}
use Rattle.slot_plan.specs.declared.slots.Role.TheVariants.{Active, Dummy}
use Rattle.slot_plan.specs.declared.slots.Slot.{Slot}

-- of the first n slots of a line with this mode word, how many are active
unfoldable pub active_below : ℕ → ℕ → ℕ
active_below word zero = 0
active_below word (suc n) = active_below word n + cond (nat_lt (n % unit word) (active_in_unit word)) 1 0

-- of the slots 1 to n, how many are active
abbrev pub active_up_to : Fields → ℕ → ℕ
active_up_to f zero = 0
active_up_to f (suc n) = active_up_to f n + cond (active f (suc n)) 1 0

-- an active slot has the stream
abbrev pub Used : Fields → ℕ → Type 0
Used f number =
    (slot : ℕ) × (1 ≤ slot) × (slot ≤ f.slots) × (active f slot ≡ true) × (stream f slot ≡ number)

abbrev pub role_of : Bool → Role
role_of true = Active
role_of false = Dummy

-- what a plan says of a slot
pub record Tells (f : Fields) (slot : ℕ) (s : Slot) : Type 0 where
  pub mode : word_of s.mode ≡ mode_word f slot
  pub role : s.role ≡ role_of (active f slot)
  pub stream : s.stream ≡ stream f slot
