use Rattle.mask_bits.proofs.Common.{FnReturnsAt}
use Rattle.mask_bits.proofs.LeftLemmas.{IsAskedSoFar}
use Rattle.mask_bits.proofs.and_rows.left_one_by_one.Given as goal

-- the bits that were asked so far
abbrev pub invariant-loop-asked : goal.invariant-loop-asked
invariant-loop-asked g l = IsAskedSoFar (FnReturnsAt g.F.Fn l.test) l.rows l.word l.asked l.left

abbrev pub decreases-loop-asked : goal.decreases-loop-asked
decreases-loop-asked g l = l.asked
