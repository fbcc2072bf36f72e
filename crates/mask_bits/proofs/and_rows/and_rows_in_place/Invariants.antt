use Rattle.mask_bits.proofs.Common.{◌*◌, FnReturnsAt}
use Rattle.mask_bits.proofs.LeftLemmas.{IsLeftSoFar}
use Rattle.mask_bits.proofs.and_rows.and_rows_in_place.Given as goal

-- the values of the words so far are what is left of them, and the others are as they were
abbrev pub invariant-loop-i : goal.invariant-loop-i
invariant-loop-i g l = IsLeftSoFar (FnReturnsAt g.F.Fn l.test) l.rows l.fn.bytes l.bytes (64 * l.i)
