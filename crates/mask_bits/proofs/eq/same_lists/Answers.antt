use Rattle.mask_bits.proofs.Common.{arith}
use Rattle.mask_bits.proofs.BufferLemmas.{same_values-from_answer}
use Rattle.mask_bits.proofs.CombineLemmas.{values-parts}
use Rattle.mask_bits.proofs.eq.same_lists.Goals as goal

pub returns-clause-same : goal.returns-clause-same
returns-clause-same c = grind (arith, values-parts)

pub returns-clause-answer : goal.returns-clause-answer
returns-clause-answer c = let same = returns-clause-same c in same_values-from_answer c.args.a.now c.args.b.now _ same.0 same.1
