use Rattle.std.proofs.Common.{◌≡◌, ◌++◌, length, vec_items}
use Rattle.super_frame_cases.specs.Pairs.{read_pairs}
use Rattle.super_frame_cases.proofs.plan_bytes.Given as goal

abbrev pub invariant-loop-rest : goal.invariant-loop-rest
invariant-loop-rest l = vec_items l.bytes ++ read_pairs l.rest ≡ read_pairs l.text

abbrev pub decreases-loop-rest : goal.decreases-loop-rest
decreases-loop-rest l = length l.rest
