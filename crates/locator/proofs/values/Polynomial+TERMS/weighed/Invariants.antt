use Rattle.std.proofs.Common.{◌≡◌, ◌-◌, ◌<◌, length, get_or, drop}
use Rattle.locator.specs.Quotients.{horner, quotient_by}
use Rattle.locator.proofs.Weighing.{dot}
use Rattle.locator.proofs.values.Polynomial+TERMS.weighed.Given as goal

-- the quotient's coefficients from this one on are made
abbrev pub invariant-loop-above : goal.invariant-loop-above
invariant-loop-above l =
    let q = quotient_by l.self.coefficients l.x in
    let j = l.self.degree - length l.yielded in
    record {
      coefficient : l.coefficient ≡ get_or q j 0;
      paired : l.paired ≡ dot (drop j q) (drop j l.sequence);
      value : l.value ≡ horner (drop j q) l.x;
      fits : (l.coefficient < 256) × (l.paired < 256) × (l.value < 256);
    }
