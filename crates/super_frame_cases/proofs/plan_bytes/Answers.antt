use Rattle.std.proofs.Common.{◌≡◌, ◌++◌, take, vec_items, rules, tests}
use Rattle.hexadecimal.specs.Hex.{unhexed}
use Rattle.super_frame_cases.proofs.Reading.{pair_read, pair_passed, all_read}
use Rattle.super_frame_cases.proofs.plan_bytes.Goals as goal

pub loop-rest-preserved-in_ok-extend_from_slice : goal.loop-rest-preserved-in_ok-extend_from_slice
loop-rest-preserved-in_ok-extend_from_slice c =
    let read : vec_items c.extend_from_slice.new.self ≡ vec_items c.loop-rest.bytes ++ unhexed (take 2 c.loop-rest.rest.now) = search rules in
    pair_read c.loop-rest.rest.now _ _ _ c.in-len2-up.len_at_least (search (rules, tests)) (search (rules, tests)) read c.loop-rest.invariant

pub loop-rest-preserved : goal.loop-rest-preserved
loop-rest-preserved c = pair_passed c.loop-rest.rest.now _ _ c.in-len2-up.len_at_least (search (rules, tests)) c.loop-rest.invariant

pub returns : goal.returns
returns c = all_read c.loop-rest.rest.now _ _ c.in_default.len_below c.loop-rest.invariant
