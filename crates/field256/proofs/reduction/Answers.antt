use Rattle.std.proofs.Common.{refl, ◌∙◌}
use Rattle.field256.specs.Field.{plus, reduced, twice, bitwise_product, times}
use Rattle.field256.proofs.reduction.Goals as goal

pub returns : goal.returns
unfolding times bitwise_product twice reduced plus
returns c = (c.product.ensures, c.product.ensures ∙ refl)
