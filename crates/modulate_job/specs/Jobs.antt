-- What words ask for. Assumes nothing.
use Rattle.std.specs.Prelude.{◌≡◌, ℕ, ◌+◌, ◌-◌, ◌*◌, ◌%◌, ◌^◌, ◌<◌, ◌≤◌, List, [], length, drop, vec_items, slice_index_or}
use Rattle.modulate_job.specs.Numbers.{Number}
use Rattle.modulate_job.specs.Packets.{Names}
use Rattle.modulate_job.specs.declared.job.Job.{Job}
use Rattle.modulate_job.specs.declared.misuse.Misuse.{Misuse}
use Rattle.modulate_job.specs.declared.misuse.Misuse.TheVariants.{Few, Pattern, Count, Lone, At, Memory}
use Rattle.run_inputs.specs.declared.change.Change.{Change}
use Rattle.run_inputs.specs.declared.source.Source.{Source}
use denote.Ref.{Bor}

-- a word is the number of a super-frame, which counts from 1
abbrev pub Numbered : List ℕ → ℕ → Type 0
Numbered word n = Number (2 ^ 32) word n × (1 ≤ n)

-- two words are a change: the number of the super-frame that it comes before, and the path of the plan
abbrev pub AsksChange : List ℕ → List ℕ → Change (Bor (List ℕ)) → Type 0
AsksChange at path c = Numbered at c.at × (c.plan.now ≡ path)

-- each two words are a change
pub record Changes (words : List (List ℕ)) (changes : List (Change (Bor (List ℕ)))) : Type 0 where
  pub pairs : length words ≡ 2 * length changes
  pub each :
      (k : ℕ) (none : Change (Bor (List ℕ))) → k < length changes → AsksChange (slice_index_or words (2 * k) []) (slice_index_or words (2 * k + 1) []) (slice_index_or changes k none)

-- what is wrong with words that should be changes, of the word that is named
abbrev pub WrongChanges : List (List ℕ) → Misuse → Type 0
WrongChanges words (Lone word) = (length words % 2 ≡ 1) × (word.now ≡ slice_index_or words (length words - 1) [])
WrongChanges words (At word) = (k : ℕ) × (2 * k + 1 < length words) × (word.now ≡ slice_index_or words (2 * k) []) × ((n : ℕ) → Numbered word.now n → ⊥)
WrongChanges words Memory = 2 ≤ length words
WrongChanges words Few = ⊥
WrongChanges words (Pattern word) = ⊥
WrongChanges words (Count word) = ⊥

-- the words are a plan, packets, a number of super-frames, a file to write and changes
pub record Asks (words : List (List ℕ)) (job : Job) : Type 0 where
  pub enough : 4 ≤ length words
  pub plan_is : job.plan.now ≡ slice_index_or words 0 []
  pub packets_are : Names (slice_index_or words 1 []) job.packets
  pub count_is : Number (2 ^ 32) (slice_index_or words 2 []) job.count
  pub out_is : job.out.now ≡ slice_index_or words 3 []
  pub changes_are : Changes (drop 4 words) (vec_items job.changes)

-- some packets and a number of super-frames are named, and there are enough words
pub record RightFront (words : List (List ℕ)) : Type 0 where
  pub enough : 4 ≤ length words
  pub packets : Source (Bor (List ℕ))
  pub packets_are : Names (slice_index_or words 1 []) packets
  pub count : ℕ
  pub count_is : Number (2 ^ 32) (slice_index_or words 2 []) count

-- What is wrong, of the word that is named: too few words first, then the packets, then the number of super-frames, then the changes.
-- Want of memory can only come with a change.
abbrev pub Wrong : List (List ℕ) → Misuse → Type 0
Wrong words Few = length words < 4
Wrong words (Pattern word) = (4 ≤ length words) × (word.now ≡ slice_index_or words 1 []) × ((p : Source (Bor (List ℕ))) → Names word.now p → ⊥)
Wrong words (Count word) =
    (4 ≤ length words) × ((p : Source (Bor (List ℕ))) × Names (slice_index_or words 1 []) p) × (word.now ≡ slice_index_or words 2 []) × ((n : ℕ) → Number (2 ^ 32) word.now n → ⊥)
Wrong words (Lone word) = RightFront words × WrongChanges (drop 4 words) (Lone word)
Wrong words (At word) = RightFront words × WrongChanges (drop 4 words) (At word)
Wrong words Memory = RightFront words × WrongChanges (drop 4 words) Memory
