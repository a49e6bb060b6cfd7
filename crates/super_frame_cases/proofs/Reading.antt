-- A plan's text, a pair further on. Assumes nothing.
use Rattle.std.proofs.Common.{◌≡◌, ℕ, ◌-◌, ◌<◌, ◌≤◌, ◌&&◌, true, false, List, [], ◌∷◌, ◌++◌, length, get_or, take, drop, sym, ◌∙◌, append_assoc, append-nil, take_all, arith}
use Rattle.hexadecimal.specs.Hex.{unhexed}
use Rattle.super_frame_cases.specs.Pairs.{is_capital, read_pairs}

-- what stands behind a pair
abbrev pub behind : List ℕ → List ℕ
behind text = take (length text - 2) (drop 2 text)

-- two digits are read
pub pair_read :
    (text bytes after all : List ℕ) → 2 ≤ length text → is_capital (get_or text 0 0) ≡ true → is_capital (get_or text 1 0) ≡ true →
    after ≡ bytes ++ unhexed (take 2 text) → bytes ++ read_pairs text ≡ all → after ++ read_pairs (behind text) ≡ all
unfolding read_pairs
pair_read [] bytes after all two high low now so_far = absurd (omega arith)
pair_read (a ∷ []) bytes after all two high low now so_far = absurd (omega arith)
pair_read (a ∷ b ∷ text) bytes after all two high low now so_far =
    let tail : behind (a ∷ b ∷ text) ≡ text = take_all (length (a ∷ b ∷ text) - 2) text (omega arith) in
    rw (tail, now, append_assoc) (rw (high, low) at so_far)

-- any other pair is passed over
pub pair_passed :
    (text bytes all : List ℕ) → 2 ≤ length text → (is_capital (get_or text 0 0) && is_capital (get_or text 1 0)) ≡ false →
    bytes ++ read_pairs text ≡ all → bytes ++ read_pairs (behind text) ≡ all
unfolding read_pairs
pair_passed [] bytes all two other so_far = absurd (omega arith)
pair_passed (a ∷ []) bytes all two other so_far = absurd (omega arith)
pair_passed (a ∷ b ∷ text) bytes all two other so_far =
    let tail : behind (a ∷ b ∷ text) ≡ text = take_all (length (a ∷ b ∷ text) - 2) text (omega arith) in
    rw tail (rw other at so_far)

-- a text that is too short for a pair has no more bytes
pub all_read : (text bytes all : List ℕ) → length text < 2 → bytes ++ read_pairs text ≡ all → bytes ≡ all
unfolding read_pairs
all_read [] bytes all short so_far = sym (append-nil bytes) ∙ so_far
all_read (a ∷ []) bytes all short so_far = sym (append-nil bytes) ∙ so_far
all_read (a ∷ b ∷ text) bytes all short so_far = absurd (omega arith)
