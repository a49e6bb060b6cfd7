use Rattle.std.proofs.Common.{rules, ℕ, ◌^◌, ◌≤◌, List, length, map, get_or, [], string_bytes, subst}
use Rattle.std.proofs.lemmas.Result.{err_from_is_err_and}
use Rattle.modulate_job.specs.Jobs.{WrongChanges}
use Rattle.modulate_job.specs.Numbers.{Number}
use Rattle.modulate_job.specs.Packets.{Names}
use Rattle.modulate_job.proofs.Spelt.{texts_from, wrong_changes}
use Rattle.modulate_job.proofs.job.Job.of.Goals as goal

pub returns-in_err-pairs : goal.returns-in_err-pairs
returns-in_err-pairs c =
    let words = c.args.words.now in
    let texts : List (List ℕ) = map string_bytes words in
    let packets : Names (get_or texts 1 []) c.in_ok-packets.packets = search rules in
    let count : Number (2 ^ 32) (get_or texts 2 []) c.in_ok-count.count = search rules in
    let long : 4 ≤ length texts = search rules in
    let p = err_from_is_err_and c.from_residual-in_err-pairs.result c.from_residual-in_err-pairs.ensures.1 in
    rw (p.1, p.2)
    (wrong_changes texts _
    record {
      enough = long;
      packets = c.in_ok-packets.packets;
      packets_are = packets;
      count = c.in_ok-count.count;
      count_is = count;
    }
    (subst (λ (l : List (List ℕ)). WrongChanges l c.in_err-pairs.field-0.0) (texts_from words 4) c.in_err-pairs.ensures))
