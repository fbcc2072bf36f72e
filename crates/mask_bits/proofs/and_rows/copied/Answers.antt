use Rattle.mask_bits.proofs.Common.{arith, values}
use Rattle.mask_bits.proofs.CombineLemmas.{take_back, values-parts}
use Rattle.mask_bits.proofs.LeftLemmas.{and_itself}
use Rattle.mask_bits.proofs.and_rows.copied.Goals as goal

pub returns-clause-list : goal.returns-clause-list
returns-clause-list c = grind (arith, take_back, values-parts, and_itself (values c.args.buffer.now))
