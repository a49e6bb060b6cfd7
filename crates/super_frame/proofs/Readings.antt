-- What is read, from the words taken and the sequence taken off. Assumes nothing.
use Rattle.std.proofs.Common.{ℕ, ◌+◌, ◌*◌, ◌<◌, List, ap, ◌∙◌}
use lib.Bits.{bit_xor}
use Rattle.dispersal.specs.Stages.{sequence}
use Rattle.super_frame.specs.Reads.{word_place, Taken, OffWords, TmccRead, Read}
use Rattle.super_frame.proofs.Finished.{number_below}

pub read_from :
    (slots : ℕ) (stream tmcc taken words : List ℕ) → ((slot : ℕ) → slot < slots → Taken 0 0x47 slots stream taken slot) →
    OffWords (8 * slots) taken words → TmccRead slots stream 8 tmcc → Read slots stream tmcc words
read_from slots stream tmcc taken words took off heads =
    record {
      heads = heads;
      begins = λ frame slot hf hs. off.begins (frame * slots + slot) (number_below slots frame slot hf hs) ∙ (took slot hs).begins frame hf;
      bytes = λ frame slot c hf hs hc.
          off.row (frame * slots + slot) c (number_below slots frame slot hf hs) hc
          ∙ ap (λ (x : ℕ). bit_xor x (sequence (word_place slots frame slot + c))) ((took slot hs).row frame c hf hc);
    }
