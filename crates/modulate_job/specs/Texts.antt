-- What is said of words that ask for nothing that can be done. Assumes nothing.
use Rattle.std.specs.Prelude.{ℕ, List, ◌++◌, codes}
use Rattle.modulate_job.specs.declared.misuse.Misuse.{Misuse}
use Rattle.modulate_job.specs.declared.misuse.Misuse.TheVariants.{Few, Pattern, Count, Lone, At, Memory}

-- which argument is at fault, what it should be, and the word that stands there
abbrev pub text : Misuse → List ℕ
text Few = codes "too few arguments"
text (Pattern word) = codes "PACKETS has not eight counts from 0 to 65535: " ++ word.now
text (Count word) = codes "COUNT is no number from 0 to 4294967295: " ++ word.now
text (Lone word) = codes "AT has no plan behind it: " ++ word.now
text (At word) = codes "AT is no number from 1 to 4294967295: " ++ word.now
text Memory = codes "no memory for the arguments"
