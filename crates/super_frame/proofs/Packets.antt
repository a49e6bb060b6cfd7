-- The packets of a super-frame, frame by frame. Assumes nothing.
use Rattle.std.proofs.Common.{◌≡◌, ℕ, ◌+◌, ◌-◌, ◌*◌, ◌<◌, ◌≤◌, List, [], length, get_or, take, drop, refl, ap, ◌∙◌, add-sub_cancel, mul-le-mul_right, arith}
use Rattle.frame_layout.proofs.Chunks.{chunks, chunks_long, chunk_is, chunk_item}
use Rattle.super_frame.specs.Progress.{FramePackets}

-- the packets of one frame are some of all packets, which are joined
pub part_packets :
    (slots : ℕ) (packets : List ℕ) → 0 < slots → length packets ≡ 188 * (8 * slots) → (frame : ℕ) (part : List (List ℕ)) → frame < 8 →
    part ≡ get_or (chunks slots (chunks 188 packets)) frame [] → FramePackets slots packets frame part
part_packets slots packets some size frame part below is slot h =
    let each = chunks 188 packets in
    let full : length packets ≡ 8 * slots * 188 = omega arith in
    let many : length each ≡ 8 * slots = chunks_long 188 (8 * slots) packets (omega arith) full in
    let le : frame + 1 ≤ 8 = omega arith in
    let number : 188 * (slots * frame + slot) ≡ 188 * ((frame + 1 - 1) * slots + (slot + 1 - 1)) = rw (add-sub_cancel frame 1, add-sub_cancel slot 1) (omega arith) in
    chunk_item slots 8 each some many frame part below is [] slot h
    ∙ (chunk_is 188 (8 * slots) packets (omega arith) full (slots * frame + slot) (get_or each (slots * frame + slot) []) (omega (arith, mul-le-mul_right slots le)) refl
    ∙ ap (λ (n : ℕ). take 188 (drop n packets)) number)
