use Rattle.std.proofs.Common.{◌≡◌, ℕ, ◌+◌, ◌<◌, ◌≤◌, length, get_or, drop}
use Rattle.field256.specs.Field.{power}
use Rattle.code_theory.specs.Sequences.{polynomial}
use Rattle.parity.specs.Remainder.{bytes_of}
use Rattle.parity.proofs.values_at_roots.Given as goal

abbrev pub invariant-loop-place : goal.invariant-loop-place
invariant-loop-place l =
    let it = l.place-iterator in
    let k = it.iter.count in
    record {
      values : (j : ℕ) → j < 16 → get_or (bytes_of 16 l.all) j 0 ≡ polynomial k l.p (power 2 j);
      rest : it.iter.iter.rest.now ≡ drop k l.p;
      left : it.n + k ≡ 16;
      within : k ≤ length l.p;
    }
