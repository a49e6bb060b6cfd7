-- Whoever reads what was written reads the packets' words. Assumes nothing.
use Rattle.std.proofs.Common.{◌≡◌, ℕ, ◌+◌, ◌-◌, List, length, get_or, take, drop, sym, ap, ◌∙◌, subst, arith}
use Rattle.std.proofs.lemmas.List.{get_or-take}
use Rattle.frame_layout.specs.Layout.{SuperFrame}
use Rattle.slot_plan.specs.declared.fields.Fields.{Fields}
use Rattle.super_frame.specs.Carried.{packet_at, IsSlotWord, AllCarried, ReadAgain, Written}
use Rattle.super_frame.specs.Reads.{word_place}
use Rattle.super_frame.proofs.Backs.{read_back}

module _ (p : Fields) (tmcc packets out : List ℕ) (words : ℕ → ℕ → List ℕ) (carried : AllCarried p packets words) (bytes : SuperFrame p.slots tmcc words out) where
  -- a word begins as its packet does
  first_byte : (f s : ℕ) → IsSlotWord (packet_at p.slots packets f s) (words f s) → get_or (words f s) 0 0 ≡ get_or (packet_at p.slots packets f s) 0 0
  first_byte f s word =
      sym (get_or-take 188 (words f s) 0 0 (omega arith)) ∙ ap (λ (xs : List ℕ). get_or xs 0 0) word.front

  read_again : length tmcc ≡ 64 → ReadAgain p tmcc packets out
  read_again whole tmcc-read read-words sixty-four size read =
      let back = read_back p.slots out tmcc-read read-words tmcc words bytes read size sixty-four in (
        back.heads whole,
        λ f s f1 f8 s1 sn on sync.
            let frame : f - 1 + 1 ≡ f = omega arith in
            let slot : s - 1 + 1 ≡ s = omega arith in
            let own = (carried f s f1 f8 s1 sn).active_slot on in
            let same : take 204 (drop (word_place p.slots (f - 1) (s - 1)) read-words) ≡ words f s =
            subst (λ (g : ℕ). length (words g s) ≡ 204 → get_or (words g s) 0 0 ≡ 0x47 → take 204 (drop (word_place p.slots (f - 1) (s - 1)) read-words) ≡ words g s) frame
            (subst (λ (t : ℕ). length (words (f - 1 + 1) t) ≡ 204 → get_or (words (f - 1 + 1) t) 0 0 ≡ 0x47 → take 204 (drop (word_place p.slots (f - 1) (s - 1)) read-words) ≡ words (f - 1 + 1) t) slot
            (back.word (f - 1) (s - 1) (omega arith) (omega arith)))
            own.size_is (first_byte f s own ∙ sync) in
            subst (λ (w : List ℕ). IsSlotWord (packet_at p.slots packets f s) w) (sym same) own,
      )

  pub written : length tmcc ≡ 64 → Written p tmcc packets out
  written whole = record { words = words; carried = carried; bytes = bytes; back = read_again whole }
