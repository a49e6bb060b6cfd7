-- What the distance between codewords says of correcting.
-- Assumes nothing.
use Rattle.std.specs.Prelude.{◌≡◌, ℕ, ◌+◌, ◌<◌, ◌≤◌, List, length, ◌≢◌}
use Rattle.code_theory.specs.Codeword.{Codeword, Bytes, distance}

-- Two different codewords of one length, at most 255, differ in d places at least.
abbrev pub DifferIn : ℕ → Type 0
DifferIn d = (c e : List ℕ) → Bytes c → Bytes e → length c ≡ length e → length c ≤ 255
    → Codeword c → Codeword e → (c ≢ e) → d ≤ distance c e

-- Some two codewords of one length, at most 255, differ in just d places.
abbrev pub Reached : ℕ → Type 0
Reached d = (c : List ℕ) × (e : List ℕ) × (length c ≡ length e) × (length c ≤ 255) × Bytes c × Bytes e
    × Codeword c × Codeword e × (distance c e ≡ d)

-- At most one codeword lies within the bound of a word.
abbrev pub OneNear : ℕ → Type 0
OneNear bound = (w c e : List ℕ) → Bytes c → Bytes e → length w ≡ length c → length w ≡ length e → length w ≤ 255
    → Codeword c → Codeword e → distance w c ≤ bound → distance w e ≤ bound → c ≡ e

-- A word that differs from some codeword in more places than the bound, and in at most 16 less the bound, has no codeword within the bound.
abbrev pub NoneNear : ℕ → Type 0
NoneNear bound = (w c e : List ℕ) → Bytes c → Bytes e → length w ≡ length c → length w ≡ length e → length w ≤ 255
    → Codeword c → Codeword e → bound < distance w c → distance w c + bound ≤ 16 → distance w e ≤ bound → ⊥
