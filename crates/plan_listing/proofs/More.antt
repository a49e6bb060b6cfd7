-- Texts after texts. Assumes nothing.
use Rattle.std.proofs.Common.{◌≡◌, ℕ, zero, suc, ◌-◌, ◌≤◌, List, ◌++◌, Result, Ok, IfOk, String, string_bytes, ap, subst, append_assoc, arith}
use Rattle.plan_listing.specs.Listing.{Tells, texts_to}

-- the texts to a number are those before it, and its own
next : (told : ℕ → List ℕ) (number : ℕ) → 1 ≤ number → texts_to told number ≡ texts_to told (number - 1) ++ told number
unfolding texts_to
next told zero h = absurd (omega (arith, h))
next told (suc n) h =
    let at : n ≡ suc n - 1 = omega arith in
    ap (λ (m : ℕ). texts_to told m ++ told (suc n)) at

pub one_more : {Z E : Type 0} (gives : ℕ → Result (String Z) E → Type 0) (told : ℕ → List ℕ) (last number : ℕ) (r : Result (String Z) E) (s : String Z)
    (before text after : List ℕ) → Tells gives told last → 1 ≤ number → number ≤ last → gives number r → r ≡ Ok s → text ≡ string_bytes s → before ≡ texts_to told (number - 1) →
    after ≡ before ++ text → after ≡ texts_to told number
one_more gives told last number r s before text after tells low high gave is same so_far put =
    let own : string_bytes s ≡ told number = subst (λ x. IfOk x (λ t. string_bytes t ≡ told number)) is (tells number r low high gave) in
    let more = next told number low in
    cc

-- two texts put after a text
pub joined :
    {a b c x y z one whole : List ℕ} → a ≡ x → b ≡ y → c ≡ z → one ≡ a ++ b → whole ≡ one ++ c → whole ≡ x ++ (y ++ z)
joined {a} {b} {c} p q r s t = let grouped = append_assoc a b c in cc
