use Rattle.mask_bits.proofs.Common.{take, ◌*◌, FnReturnsAt, bitmap, AreAnswers}
use Rattle.mask_bits.proofs.from_rows.put_answers.Given as goal

-- the answers of the words so far are written
abbrev pub invariant-loop-i : goal.invariant-loop-i
invariant-loop-i g l = AreAnswers (FnReturnsAt g.F.Fn l.test) (take (64 * l.i) l.rows) (bitmap l.bytes 0 (64 * l.i))
