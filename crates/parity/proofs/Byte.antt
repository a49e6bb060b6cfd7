-- Lists of bytes, put together, cut and written to.
-- Assumes nothing.
use Rattle.std.proofs.Common.{◌≡◌, ℕ, zero, suc, ◌<◌, List, [], ◌∷◌, ◌++◌, get_or, take, set, replicate, refl, arith}
use Rattle.code_theory.specs.Codeword.{Bytes}

pub bytes_append : (u v : List ℕ) → Bytes u → Bytes v → Bytes (u ++ v)
bytes_append [] v f g k = g k
bytes_append (b ∷ u) v f g zero = f 0
bytes_append (b ∷ u) v f g (suc k) = bytes_append u v (λ i. f (suc i)) g k

pub bytes_take : (n : ℕ) (w : List ℕ) → Bytes w → Bytes (take n w)
bytes_take zero w f k = omega arith
bytes_take (suc n) [] f k = omega arith
bytes_take (suc n) (b ∷ w) f zero = f 0
bytes_take (suc n) (b ∷ w) f (suc k) = bytes_take n w (λ i. f (suc i)) k

pub bytes_set : (w : List ℕ) (i b : ℕ) → Bytes w → b < 256 → Bytes (set w i b)
bytes_set [] i b f h k = f k
bytes_set (a ∷ w) zero b f h zero = h
bytes_set (a ∷ w) zero b f h (suc k) = f (suc k)
bytes_set (a ∷ w) (suc i) b f h zero = f 0
bytes_set (a ∷ w) (suc i) b f h (suc k) = bytes_set w i b (λ n. f (suc n)) h k

pub zero_at : (n k : ℕ) → get_or {A = ℕ} (replicate n 0) k 0 ≡ 0
zero_at zero k = refl
zero_at (suc n) zero = refl
zero_at (suc n) (suc k) = zero_at n k

pub bytes_zeros : (n : ℕ) → Bytes (replicate n 0)
bytes_zeros n k = rw (zero_at n k) (omega arith)
