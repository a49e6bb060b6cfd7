-- One more row of a block put back into its part. Assumes nothing.
use Rattle.std.proofs.Common.{◌≡◌, ℕ, ◌+◌, ◌*◌, ◌<◌, ◌≤◌, ◌≢◌, ◌⊎◌, List, get_or, sym, ap, ◌∙◌, inl, inr, ⊎_elim, arith}
use Rattle.std.proofs.lemmas.Bool.{cases_eq, cases_lt}
use Rattle.frame_layout.specs.Layout.{frame_size}
use Rattle.super_frame.specs.Parts.{part, Copied}
use Rattle.super_frame.proofs.Apart.{frames_apart}

-- the rows below n of a block are the parts of a slot
abbrev pub Rows : {X : Type 0} → X → ℕ → ℕ → List X → List X → ℕ → Type 0
Rows rest slots slot bytes block n =
    (frame c : ℕ) → frame < n → c < 203 → get_or block (203 * frame + c) rest ≡ get_or bytes (part slots frame slot + c) rest

-- a place of a frame that is not in a part of it lies below or above that part
apart :
    (slots slot n frame r : ℕ) → slot < slots → r < frame_size slots → ((frame ≡ n) → (r < 12 + 203 * slot) ⊎ (12 + 203 * slot + 203 ≤ r)) →
    (frame * frame_size slots + r < part slots n slot) ⊎ (part slots n slot + 203 ≤ frame * frame_size slots + r)
apart slots slot n frame r hs hr other =
    ⊎_elim
    (λ below. inl (omega (arith, frames_apart slots frame n below)))
    (λ le.
    ⊎_elim
    (λ e.
    let same : frame * frame_size slots ≡ n * frame_size slots = ap (λ (f : ℕ). f * frame_size slots) e in
    ⊎_elim (λ lower. inl (omega (arith, same, lower))) (λ upper. inr (omega (arith, same, upper))) (other e))
    (λ ne. inr (omega (arith, frames_apart slots n frame (omega (arith, le, ne)))))
    (cases_eq frame n))
    (cases_lt frame n)

module _
    {X : Type 0} (rest : X) (slots slot n at to : ℕ) (from before after : List X) (hs : slot < slots) (et : to ≡ part slots n slot)
    (copied : Copied rest from at before to after)
  where
    -- what a copy into a part leaves
    pub left :
        (frame r : ℕ) → r < frame_size slots → ((frame ≡ n) → (r < 12 + 203 * slot) ⊎ (12 + 203 * slot + 203 ≤ r)) →
        get_or after (frame * frame_size slots + r) rest ≡ get_or before (frame * frame_size slots + r) rest
    left frame r hr other =
        ⊎_elim
        (λ lower. copied.below (frame * frame_size slots + r) (omega (arith, lower, et)))
        (λ upper. copied.above (frame * frame_size slots + r) (omega (arith, upper, et)))
        (apart slots slot n frame r hs hr other)

    pub left_head :
        (frame i : ℕ) → i < 12 → get_or after (frame * frame_size slots + i) rest ≡ get_or before (frame * frame_size slots + i) rest
    left_head frame i h = left frame i (omega arith) (λ _. inl (omega arith))

    pub left_part :
        (frame s c : ℕ) → s < slots → c < 203 → ((frame ≡ n) → s ≢ slot) → get_or after (part slots frame s + c) rest ≡ get_or before (part slots frame s + c) rest
    left_part frame s c h hc other =
        let p : part slots frame s + c ≡ frame * frame_size slots + (12 + 203 * s + c) = omega arith in
        ap (λ (k : ℕ). get_or after k rest) p
        ∙ (left frame (12 + 203 * s + c) (omega arith)
        (λ e. ⊎_elim (λ lower. inl (omega (arith, lower))) (λ upper. inr (omega (arith, upper, other e))) (cases_lt s slot))
        ∙ ap (λ (k : ℕ). get_or before k rest) (sym p))

    pub put_here : (c : ℕ) → c < 203 → get_or after (part slots n slot + c) rest ≡ get_or from (at + c) rest
    put_here c h = ap (λ (k : ℕ). get_or after k rest) (ap (λ (k : ℕ). k + c) (sym et)) ∙ copied.here c h

module _
    (slots slot n at to : ℕ) (block before after : List ℕ) (hs : slot < slots) (ea : at ≡ 203 * n) (et : to ≡ part slots n slot)
    (copied : Copied 0 block at before to after)
  where
    pub scattered_more : Rows 0 slots slot before block n → Rows 0 slots slot after block (n + 1)
    scattered_more rows frame c hf hc =
        ⊎_elim
        (λ e.
        let p : 203 * frame + c ≡ at + c = omega arith in
        ap (λ (k : ℕ). get_or block k 0) p
        ∙ (sym (put_here 0 slots slot n at to block before after hs et copied c hc) ∙ ap (λ (f : ℕ). get_or after (part slots f slot + c) 0) (sym e)))
        (λ ne.
        rows frame c (omega (arith, ne)) hc
        ∙ sym (left_part 0 slots slot n at to block before after hs et copied frame slot c hs hc (λ e. absurd (ne e))))
        (cases_eq frame n)
