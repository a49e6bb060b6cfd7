use Rattle.std.proofs.Common.{◌≡◌, ◌/◌, ◌%◌, refl, arith}
use Rattle.pattern_feed.specs.Patterns.{pattern}
use Rattle.pattern_feed.proofs.packet.write_packet.Goals as goal

pub returns : goal.returns
unfolding pattern
returns c =
    let n = c.args.number in
    let high : n / 256 % 256 ≡ n / 256 = omega arith in
    let nibble : n % 256 % 16 ≡ n % 16 = omega arith in
    rw (c.copy_from_slice.ensures.after, c.fill.ensures.after (λ y same. same), c.told-to, c.to_be_bytes.ensures, high, nibble) refl
