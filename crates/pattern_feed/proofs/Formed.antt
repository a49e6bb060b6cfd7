-- What the feed means is well formed.
use Rattle.std.proofs.Common.{◌≡◌, ℕ, zero, suc, ◌+◌, ◌%◌, ◌<◌, ◌≤◌, List, [], length, get_or, replicate, sym, refl, ap, subst, inl, inr, arith}
use Rattle.std.proofs.lemmas.List.{get_or_past, length-map}
use Rattle.std.proofs.lemmas.Bool.{cases_lt}
use Rattle.feed.specs.Packets.{Packet, IsPacket, WellFormed}
use Rattle.pattern_feed.specs.Numbers.{next_of, counts_of}
use Rattle.pattern_feed.specs.Patterns.{pattern}
use Rattle.pattern_feed.specs.Pending.{pending}
use Rattle.pattern_feed.specs.declared.state.PatternFeed.{PatternFeed}
use Rattle.pattern_feed.proofs.Run.{patterns_length, patterns_none, patterns_at}

replicate_below : (n k byte : ℕ) → byte < 256 → get_or (replicate n byte) k 0 < 256
replicate_below zero k byte small = omega arith
replicate_below (suc n) zero byte small = small
replicate_below (suc n) (suc k) byte small = replicate_below n k byte small

pattern_byte : (r n : ℕ) → r < 8 → n < 65536 → (k : ℕ) → get_or (pattern r n) k 0 < 256
unfolding pattern
pattern_byte r n stream number zero = omega arith
pattern_byte r n stream number (suc zero) = omega arith
pattern_byte r n stream number (suc (suc zero)) = omega arith
pattern_byte r n stream number (suc (suc (suc zero))) = omega arith
pattern_byte r n stream number (suc (suc (suc (suc zero)))) = omega arith
pattern_byte r n stream number (suc (suc (suc (suc (suc zero))))) = omega arith
pattern_byte r n stream number (suc (suc (suc (suc (suc (suc k)))))) = replicate_below 182 k (n % 256) (omega arith)

pattern_packet : (r n : ℕ) → r < 8 → n < 65536 → IsPacket (pattern r n)
unfolding pattern
pattern_packet r n stream number = record { size = refl; sync = refl; bytes = pattern_byte r n stream number }

-- What is known of a stream in which a packet waits
pub record Waits (f : PatternFeed) (r : ℕ) : Type 0 where
  pub stream : r < 8
  pub within : r < length f.left
  pub below : get_or (next_of f.left) r 0 < get_or (counts_of f.left) r 0

module _ (f : PatternFeed) where
  pub none_above : (r : ℕ) → 8 ≤ r → pending f r ≡ []
  none_above r above =
      let none : get_or (counts_of f.left) r 0 ≡ 0 = get_or_past (counts_of f.left) r 0 (omega (arith, length-map f.left (λ n. n.end), f.streams)) in
      patterns_none r (get_or (next_of f.left) r 0) (get_or (counts_of f.left) r 0) (omega arith)

  pub some_waits : (r : ℕ) → 0 < length (pending f r) → Waits f r
  some_waits r some =
      let size = patterns_length r (get_or (next_of f.left) r 0) (get_or (counts_of f.left) r 0) in
      let stream : r < 8 =
      elim (cases_lt r 8) [
        | inl below ↦ below
        | inr above ↦
            absurd (omega (arith, ap (λ (ps : List Packet). length ps) (none_above r above)))
      ] in
      record { stream = stream; within = omega (arith, f.streams); below = omega arith }

  each_packet : (r k : ℕ) → k < length (pending f r) → IsPacket (get_or (pending f r) k [])
  each_packet r k within =
      let size = patterns_length r (get_or (next_of f.left) r 0) (get_or (counts_of f.left) r 0) in
      subst (λ (p : Packet). IsPacket p)
      (sym (patterns_at r (get_or (next_of f.left) r 0) (get_or (counts_of f.left) r 0) k (omega arith)))
      (pattern_packet r (get_or (next_of f.left) r 0 + k) (some_waits r (omega arith)).stream (omega (arith, f.short r)))

  pub pending_formed : WellFormed (pending f)
  pending_formed =
      record {
        streams = none_above;
        short = λ r. omega (arith, patterns_length r (get_or (next_of f.left) r 0) (get_or (counts_of f.left) r 0), f.short r);
        packets = each_packet;
      }
