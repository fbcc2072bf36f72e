use Rattle.mask_c.proofs.Common.{arith, common_steps, combined-take, no_values, window-take}
use Rattle.mask_c.proofs.pointwise.combine_remainder.Goals as goal

pub returns-then-rest-eq0 : goal.returns-then-rest-eq0
returns-then-rest-eq0 g c = grind (arith, common_steps, no_values)

pub returns-else-rest-eq0 : goal.returns-else-rest-eq0
returns-else-rest-eq0 g c = grind (arith, common_steps, combined-take, window-take)
