use Rattle.std.proofs.Common.{◌≡◌, ℕ, ◌+◌, ◌-◌, ◌≤◌, List, ◌++◌, length, get_or, take, drop, replicate, ◌∙◌, arith}
use Rattle.std.proofs.lemmas.List.{take_at, length-take-le, get_or-append_right, get_or-drop}
use Rattle.plan_formats.specs.Body.{body}
use Rattle.plan_formats.proofs.Joins.{zeros_at}
use Rattle.plan_formats.proofs.Reading.{took_append, took_values}
use Rattle.plan_formats.proofs.body.Widths.read.Goals as goal

zeros : List ℕ
zeros = replicate 48 0

taken : (n : ℕ) → n ≤ 48 → length (take n zeros) ≡ n
unfolding zeros
taken n h = length-take-le n zeros h

-- what was not read is 0
beyond : (xs : List ℕ) (n k : ℕ) → length xs ≡ n → n ≤ k → get_or (xs ++ drop n zeros) k 0 ≡ 0
unfolding zeros
beyond xs n k len h = get_or-append_right xs (drop n zeros) n k 0 len h ∙ get_or-drop n zeros (k - n) 0 ∙ zeros_at zeros tt (n + (k - n))

pub returns-clause-beyond : goal.returns-clause-beyond
unfolding zeros
returns-clause-beyond c k h =
    let w = c.args.self.now in
    beyond c.read_numbers.new.values w.streams k (c.read_numbers.auto.values ∙ taken w.streams (omega arith)) h

pub returns-clause-took : goal.returns-clause-took
unfolding zeros body
returns-clause-took c =
    let w = c.args.self.now in
    let got = c.read_numbers.new.values in
    let len : length got ≡ w.streams = c.read_numbers.auto.values ∙ taken w.streams (omega arith) in
    let own : take w.streams (got ++ drop w.streams zeros) ≡ got = take_at got (drop w.streams zeros) w.streams len in
    let streams = took_values w.stream got c.read_numbers.ensures in
    let ids = took_values 16 c.read_numbers-2.new.values c.read_numbers-2.ensures in
    rw own
    (took_append _ _ c.read_lines-lines.ensures.took
    (took_append _ _ streams (took_append _ _ ids (took_append _ _ c.read.ensures.took c.read-2.ensures.took))))
