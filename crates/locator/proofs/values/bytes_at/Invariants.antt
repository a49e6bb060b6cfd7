use Rattle.std.proofs.Common.{◌≡◌, ℕ, ◌<◌, length, get_or}
use Rattle.code_theory.specs.Codeword.{Bytes}
use Rattle.code_theory.specs.Sequences.{place}
use Rattle.locator.specs.Errors.{ByteAt}
use Rattle.locator.specs.Quotients.{Weighed}
use Rattle.locator.proofs.values.bytes_at.Given as goal

abbrev pub invariant-loop-k : goal.invariant-loop-k
invariant-loop-k l = record {
  size : length l.byte-items ≡ l.places.count;
  bytes : Bytes l.byte-items;
  each : (k : ℕ) → k < l.k → ByteAt l.sequence l.places.len l.places.count l.places.list k (get_or l.byte-items k 0);
  weighed : (k : ℕ) → k < l.k → Weighed l.sequence l.p.coefficients (place l.places.len (get_or l.places.list k 0)) (get_or l.byte-items k 0);
}
