-- Where the parts of a super-frame stand to each other. Assumes nothing.
use Rattle.std.proofs.Common.{ℕ, ◌+◌, ◌*◌, ◌<◌, ◌≤◌, mul-le-mul_right, add-mul, arith}
use Rattle.frame_layout.specs.Layout.{frame_size, super_size}
use Rattle.super_frame.specs.Parts.{part}

-- a frame ends before a later frame begins
pub frames_apart : (slots f g : ℕ) → f < g → f * frame_size slots + frame_size slots ≤ g * frame_size slots
frames_apart slots f g h =
    let le : f + 1 ≤ g = omega arith in
    omega (arith, mul-le-mul_right (frame_size slots) le, add-mul f 1 (frame_size slots))

pub part_within : (slots f s : ℕ) → f < 8 → s < slots → part slots f s + 203 ≤ super_size slots
part_within slots f s hf hs = omega (arith, frames_apart slots f 8 hf)
