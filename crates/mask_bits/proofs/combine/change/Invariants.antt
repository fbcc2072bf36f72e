use Rattle.mask_bits.proofs.Common.{◌*◌, IsCombinedBetween}
use Rattle.mask_bits.proofs.combine.change.Given as goal

-- the words before are combined
abbrev pub invariant-loop-i : goal.invariant-loop-i
invariant-loop-i g l = IsCombinedBetween g.C.BitOp.of_bits l.initial.bytes l.b.bytes.now l.bytes l.b.low (64 * l.from) (64 * l.i)
