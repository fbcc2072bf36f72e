use Rattle.mask_bits.proofs.Common.{◌*◌, AreCombined}
use Rattle.mask_bits.proofs.combine.extend.Given as goal

-- the words before are written
abbrev pub invariant-loop-i : goal.invariant-loop-i
invariant-loop-i g l = AreCombined g.C.BitOp.of_bits l.a.bytes.now l.a.low l.b.bytes.now l.b.low l.out (64 * l.i)
