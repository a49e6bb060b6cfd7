-- The sequence by itself: each bit, and so each byte, is the sum of two earlier ones. Assumes nothing.
use Rattle.std.proofs.Common.{◌≡◌, ℕ, zero, suc, ◌+◌, ◌*◌, ◌^◌, ◌<◌, Bool, T, eqb, sym, refl, ap, ◌∙◌, add-zero, arith, eqb→eq}
use lib.Bits.{bit_xor, xor_assoc, xor_self, xor_block}
use Rattle.std.proofs.lemmas.Nat.{xor_lt}
use Rattle.dispersal.specs.Stages.{stage, fed, moved, state, bits}
use Rattle.dispersal.proofs.Every.{every, at}

-- the stages after n more bits
abbrev later : ℕ → ℕ → ℕ
later zero s = s
later (suc n) s = later n (moved s)

test : ℕ → Bool
test s = eqb (fed (later 15 s)) (bit_xor (fed s) (fed (moved s)))

tested : T (every test 15 0)
unfolding test
tested = tt

state_below : (t : ℕ) → state t < 2 ^ 15
unfolding state
state_below zero = omega arith
state_below (suc t) =
    let s = state t in
    omega (arith, xor_lt 1 (stage 14 s) (stage 15 s) (omega arith) (omega arith))

later_state : (n t : ℕ) → later n (state t) ≡ state (t + n)
unfolding state
later_state zero t = rw add-zero refl
later_state (suc n) t = let more : t + suc n ≡ suc t + n = omega arith in rw more (later_state n (suc t))

-- bit t of the sequence
unfoldable pub bit : ℕ → ℕ
bit t = fed (state t)

pub bit_below : (t : ℕ) → bit t < 2 ^ 1
unfolding bit
bit_below t = let s = state t in xor_lt 1 (stage 14 s) (stage 15 s) (omega arith) (omega arith)

-- each bit is the sum of the bits `far` before it and `near` after that one
abbrev Recurs : ℕ → ℕ → Type 0
Recurs far near = (t : ℕ) → bit (t + far) ≡ bit_xor (bit t) (bit (t + near))

fifteen : Recurs 15 1
unfolding bit test state
fifteen t =
    let s = state t in
    let p : T (test s) = at test 15 0 tested s (omega (arith, state_below t)) in
    let q : fed (later 15 s) ≡ bit_xor (fed s) (fed (moved s)) = eqb→eq (fed (later 15 s)) (bit_xor (fed s) (fed (moved s))) p in
    ap (λ (x : ℕ). fed x) (sym (later_state 15 t)) ∙ (q ∙ ap (λ (x : ℕ). bit_xor (fed s) (fed x)) (later_state 1 t))

twofold : (a d : ℕ) → Recurs a d → Recurs (a + a) (d + d)
twofold a d r t =
    let x = bit t in
    let y = bit (t + d) in
    let z = bit (t + (d + d)) in
    let first : t + (a + a) ≡ t + a + a = omega arith in
    let second : t + a + d ≡ t + d + a = omega arith in
    let third : t + d + d ≡ t + (d + d) = omega arith in
    ap (λ (i : ℕ). bit i) first
    ∙ (r (t + a)
    ∙ (ap (λ (i : ℕ). bit_xor (bit (t + a)) (bit i)) second
    ∙ (ap (λ (b : ℕ). bit_xor b (bit (t + d + a))) (r t)
    ∙ (ap (λ (b : ℕ). bit_xor (bit_xor x y) b) (r (t + d) ∙ ap (λ (i : ℕ). bit_xor y (bit i)) third)
    ∙ (xor_assoc x y (bit_xor y z) ∙ ap (λ (b : ℕ). bit_xor x b) (sym (xor_assoc y y z) ∙ ap (λ (b : ℕ). bit_xor b z) (xor_self y)))))))

bytewise : Recurs 120 8
bytewise = twofold 60 4 (twofold 30 2 (twofold 15 1 fifteen))

-- n bits are the sum of those 120 before them and of those 112 before them
pub bits_recur : (t n : ℕ) → bits (t + 120) n ≡ bit_xor (bits t n) (bits (t + 8) n)
unfolding bits bit
bits_recur t zero = refl
bits_recur t (suc n) =
    let x = bits t n in
    let y = bits (t + 8) n in
    let p = bit (t + n) in
    let q = bit (t + 8 + n) in
    let on : t + 120 + n ≡ t + n + 120 = omega arith in
    let near : t + n + 8 ≡ t + 8 + n = omega arith in
    let here : bit (t + 120 + n) ≡ bit_xor p q =
    ap (λ (i : ℕ). bit i) on ∙ (bytewise (t + n) ∙ ap (λ (i : ℕ). bit_xor p (bit i)) near) in
    let split : bit_xor (2 * x + p) (2 * y + q) ≡ 2 * bit_xor x y + bit_xor p q =
    rw (native.Mathlib.Nat.mul_comm 2 x, native.Mathlib.Nat.mul_comm 2 y, native.Mathlib.Nat.mul_comm 2 (bit_xor x y)) (xor_block 1 x y p q (bit_below (t + n)) (bit_below (t + 8 + n))) in
    ap (λ (b : ℕ). 2 * b + bit (t + 120 + n)) (bits_recur t n) ∙ (ap (λ (b : ℕ). 2 * bit_xor x y + b) here ∙ sym split)
