-- Sums over the streams, and the packets that a fill placed.
use Rattle.std.proofs.Common.{◌≡◌, ℕ, zero, suc, ◌+◌, List, length, sym, refl, ap, ◌∙◌, arith, length-append}
use Rattle.feed.specs.Packets.{Packet, Lists}
use Rattle.modulator.specs.Fills.{Sent, Filled, placed, over_streams}
use Rattle.modulator.specs.declared.state.Loaded.{Loaded}
use Rattle.modulator.proofs.Lossless.{placed_rest}

-- sums of sums
over_add : (f g h : ℕ → ℕ) → ((r : ℕ) → f r + g r ≡ h r) → (n : ℕ) → over_streams f n + over_streams g n ≡ over_streams h n
unfolding over_streams
over_add f g h e zero = refl
over_add f g h e (suc n) = omega (arith, over_add f g h e n, e n)

-- how many packets wait in all streams
abbrev pub all : Lists → ℕ
all lists = over_streams (λ q. length (lists q)) 8

-- those that a fill placed and those that it left are those that waited
pub placed_all :
    {m : Loaded} {before after : Lists} {sent : Sent} {out : List ℕ} → Filled m before sent out after →
    over_streams (λ r. length (placed sent r)) 8 + all after ≡ all before
placed_all {m} {before} {after} {sent} {out} f =
    over_add (λ r. length (placed sent r)) (λ r. length (after r)) (λ r. length (before r))
    (λ r. sym (length-append (placed sent r) (after r)) ∙ ap (λ (ps : List Packet). length ps) (placed_rest f r)) 8
