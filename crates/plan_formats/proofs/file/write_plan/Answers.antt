use Rattle.std.proofs.Common.{length, drop, arith}
use Rattle.std.proofs.lemmas.List.{take_at}
use Rattle.slot_plan.proofs.Checked.{plan_valid}
use Rattle.plan_formats.proofs.Backwards.{file_back, only_file}
use Rattle.plan_formats.proofs.file.write_plan.Goals as goal

pub returns-clause-back : goal.returns-clause-back
returns-clause-back c =
    let p = c.args.plan.now in
    let bytes = c.write_file.new.bytes in
    let wrote = c.write_file.ensures in
    let whole = take_at bytes (drop (length bytes) c.in_ok-file.file.items) c.in_ok-file.file.len (omega (arith, c.as_mut_slice.ensures.len)) in
    rw whole (file_back bytes p.fields wrote.bytes wrote.file (plan_valid p))

pub returns-clause-only : goal.returns-clause-only
returns-clause-only c =
    let p = c.args.plan.now in
    let bytes = c.write_file.new.bytes in
    let wrote = c.write_file.ensures in
    let whole = take_at bytes (drop (length bytes) c.in_ok-file.file.items) c.in_ok-file.file.len (omega (arith, c.as_mut_slice.ensures.len)) in
    rw whole (wrote.bytes, only_file bytes p.fields wrote.bytes wrote.file)
