use Rattle.std.proofs.Common.{◌≡◌, ℕ, zero, suc, List, [], length, get_or, replicate, sym, refl, ap, ◌∙◌, arith}
use Rattle.feed.specs.Packets.{Packet}
use Rattle.stored_feed.specs.Files.{packets_from}
use Rattle.stored_feed.proofs.Scan.{from_end}
use Rattle.stored_feed.proofs.state.StoredFeed.empty.Goals as goal

-- a file of no bytes has no packets
none : (r first : ℕ) → packets_from [] r first ≡ []
none r first = from_end [] r first (omega arith)

-- no list of zeros holds another number, and past its end 0 is read
zeros_at : (n i : ℕ) → ◌≡◌ {A = ℕ} (get_or (replicate n 0) i 0) 0
zeros_at zero i = refl
zeros_at (suc n) zero = refl
zeros_at (suc n) (suc i) = zeros_at n i

pub invariant_of-result : goal.invariant_of-result
invariant_of-result c =
    record {
      streams = refl;
      bytes = λ k. omega arith;
      short = omega arith;
      sound = λ i below. absurd (omega arith);
      counted = λ r. zeros_at 8 r ∙ sym (ap (λ (ps : List Packet). length ps) (none r (get_or (replicate 8 0) r 0)));
    }
