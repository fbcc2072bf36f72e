use Rattle.mask_c.proofs.Common.{append-nil, arith, indices-none}
use Rattle.mask_c.proofs.indices.put_block.Goals as goal

pub returns-else-ones-ne0-clause-items : goal.returns-else-ones-ne0-clause-items
returns-else-ones-ne0-clause-items g c = grind (arith, append-nil, indices-none)
