use Rattle.std.proofs.Common.{refl, arith}
use Rattle.field256.specs.Field.{times, twice, bitwise_product, reduced, plus}
use Rattle.outer_code.specs.Kinds.{Sync, Any}
use Rattle.outer_code.proofs.Results.{correction}
use Rattle.known_results.specs.Known.{Product}
use Rattle.known_results.proofs.Slots.{one_dummy}
use Rattle.known_results.proofs.Beginnings.{data_begin, sequence_begins, super_frame_begins}
use Rattle.known_results.proofs.Refused.{rising_words, broken_unit}
use Rattle.known_results.proofs.known_results.Goals as goal

product : Product
unfolding times twice bitwise_product reduced plus
product = refl

pub returns : goal.returns
returns c =
    record {
      all =
          record {
            sequence_begins = sequence_begins;
            product = product;
            taken_from = (refl, refl, refl, refl, refl, refl);
            address_table = (refl, refl, refl, refl, refl, refl, refl, refl);
            lengths = (refl, refl);
            one_dummy = one_dummy;
            data_begin = data_begin;
            super_frame_begins = super_frame_begins;
            rising_words = rising_words;
            broken_unit = broken_unit;
            six_errors = (
              (λ w answer after a len. (correction 204 Sync 6 w answer after (omega arith) a).at_six len refl),
              (λ w answer after a len. (correction 64 Any 6 w answer after (omega arith) a).at_six len refl),
            );
            harmed_marks = λ slots stream place left. (
              (λ one. ((left, omega arith), λ exact. omega arith)),
              (λ two held. omega arith),
            );
          };
      number = refl;
    }
