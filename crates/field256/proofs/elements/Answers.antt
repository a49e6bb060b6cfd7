use Rattle.std.proofs.Common.{refl}
use Rattle.field256.specs.Rules.{FieldLaws}
use Rattle.field256.proofs.Laws as laws
use Rattle.field256.proofs.elements.Goals as goal

field_laws : FieldLaws
field_laws =
    record {
      sums_fit = laws.plus_fits;
      sums_commute = laws.plus_comm;
      sums_associate = laws.plus_assoc;
      zero = laws.plus_zero;
      opposite = laws.plus_self;
      products_fit = laws.times_fits;
      products_commute = laws.times_comm;
      products_associate = laws.times_assoc;
      one = laws.one_times;
      distribute = laws.times_plus;
      inverses = λ a h some. (laws.inverse a, laws.inverse_fits a, laws.times_inverse a h some);
      no_zero_divisors = laws.no_zero_divisors;
      generator_distinct = laws.two_power_distinct;
      generator_order = laws.two_power_255;
    }

pub returns : goal.returns
returns c = record { number = refl; laws = field_laws }
