-- The transmission modes, by their mode words. Assumes nothing.
use Rattle.std.specs.Prelude.{◌≡◌, ◌≢◌, ℕ, [], ◌∷◌, slice_index, Result, MatchResult}
use Rattle.slot_plan.specs.declared.mode.Mode.{Mode}
use Rattle.slot_plan.specs.declared.mode.Mode.TheVariants.{Bpsk12, Qpsk12, Qpsk23, Qpsk34, Qpsk56, Qpsk78, Tc8psk23}
use Rattle.slot_plan.specs.declared.mode.UnknownMode.{UnknownMode}

-- how many slots a unit of a mode has, by mode word; 0 where no mode has the word
abbrev pub unit : ℕ → ℕ
unit w = slice_index (0 ∷ 4 ∷ 2 ∷ 3 ∷ 4 ∷ 6 ∷ 8 ∷ 1 ∷ []) w

-- how many slots of a unit are active: the first ones
abbrev pub active_in_unit : ℕ → ℕ
active_in_unit w = slice_index (0 ∷ 1 ∷ 1 ∷ 2 ∷ 3 ∷ 5 ∷ 7 ∷ 1 ∷ []) w

abbrev pub word_of : Mode → ℕ
word_of Bpsk12 = 1
word_of Qpsk12 = 2
word_of Qpsk23 = 3
word_of Qpsk34 = 4
word_of Qpsk56 = 5
word_of Qpsk78 = 6
word_of Tc8psk23 = 7

-- the result is the mode that has the word, or an error with the word where no mode has it
abbrev pub Decodes : ℕ → Result Mode UnknownMode → Type 0
Decodes word r = MatchResult r (λ m. word_of m ≡ word) (λ e. (e.0 ≡ word) × ((m : Mode) → word_of m ≢ word))
