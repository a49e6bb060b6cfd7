-- The course of an outlet: the super-frames that it was sent, the last first, with events told in between. Assumes nothing.
use Rattle.std.specs.Prelude.{ℕ, List, [], ◌∷◌}
use Rattle.transmission.specs.declared.event.Event.{Event}

-- From the start to a state, by an outlet's own relations: what a send of bytes does, and what a told event does.
pub data Course {O : Type 0} (sends : O → List ℕ → O → Type 0) (hears : O → Event → O → Type 0) (start : O) : O → List (List ℕ) → Type 0 where
  none : Course sends hears start start []
  sent :
      {o p : O} {frames : List (List ℕ)} (bytes : List ℕ) → Course sends hears start o frames → sends o bytes p →
      Course sends hears start p (bytes ∷ frames)
  told :
      {o p : O} {frames : List (List ℕ)} (event : Event) → Course sends hears start o frames → hears o event p →
      Course sends hears start p frames

-- every course to the first state goes on to the second, with no super-frame more
abbrev pub HearsOn : {O : Type 0} → (O → List ℕ → O → Type 0) → (O → Event → O → Type 0) → O → O → Type 0
HearsOn {O} sends hears o p =
    (start : O) (frames : List (List ℕ)) → Course sends hears start o frames → Course sends hears start p frames

-- the same, with one super-frame more
abbrev pub SendsOn : {O : Type 0} → (O → List ℕ → O → Type 0) → (O → Event → O → Type 0) → O → List ℕ → O → Type 0
SendsOn {O} sends hears o bytes p =
    (start : O) (frames : List (List ℕ)) → Course sends hears start o frames → Course sends hears start p (bytes ∷ frames)
