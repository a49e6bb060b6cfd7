-- The numbers that the calls on super-frames answer. Assumes nothing.
use Rattle.std.specs.Prelude.{ℕ, Ok, Err, Result}
use Rattle.modulator.specs.Faults as modulator
use Rattle.plan_formats.specs.Faults.{file_number}
use Rattle.stored_feed.specs.Faults as packets
use Rattle.rondvysti_bench.specs.declared.refusal.Refusal.{Refusal}
use Rattle.rondvysti_bench.specs.declared.refusal.Refusal.TheVariants.{File, Packets, Modulator, Length}

-- each fault has its number among the refusals
abbrev pub number : Refusal → ℕ
number (File fault) = file_number fault
number (Packets fault) = packets.number fault
number (Modulator fault) = modulator.number fault
number (Length fault) = 8

-- 0 of what is done, or the number of its refusal
abbrev pub answered : Result (Unit {0}) Refusal → ℕ
answered (Ok _) = 0
answered (Err refusal) = number refusal
