use Rattle.mask_bits.proofs.Common.{◌*◌, take, FnReturnsAt, ArePacked}
use Rattle.mask_bits.proofs.from_rows.word_of_rows.Given as goal

-- the answers so far have their lanes
abbrev pub invariant-loop-k : goal.invariant-loop-k
invariant-loop-k g l = ArePacked 64 (FnReturnsAt g.F.Fn l.test) (take (16 * l.k) l.rows) l.lanes
