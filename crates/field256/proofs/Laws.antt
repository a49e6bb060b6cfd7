-- The laws of the field, for every crate above.
-- A ring identity is one `simp` by the set `ring`; the laws of zero and one, and cancelling, stand apart.
-- Assumes nothing.
use Rattle.field256.proofs.Sums.{plus_assoc, plus_comm, plus_left_comm}
use Rattle.field256.proofs.Ring.{times_assoc, times_comm, times_left_comm, times_plus, plus_times}
pub use Rattle.field256.proofs.Sums.{plus_xor, plus_assoc, plus_comm, plus_left_comm, plus_self, plus_zero, zero_plus, plus_fits, plus_cancel, plus_same, plus_mod}
pub use Rattle.field256.proofs.Ring.{times_fits, times_comm, times_assoc, times_left_comm, plus_times, times_plus, zero_times, times_zero, one_times, times_one}
pub use Rattle.field256.proofs.Inverses.{inverse, times_inverse, inverse_fits, times_cancel, no_zero_divisors}
pub use Rattle.field256.proofs.Powers.{power_zero, power_suc, power_one, power_fits, power_add, power_nonzero, power_mul, power_times, two_power_255, two_power_mod, two_power_nonzero, two_power_distinct}

pub ruleset ring = (plus_assoc, plus_comm, plus_left_comm, times_assoc, times_comm, times_left_comm, times_plus, plus_times)
