use Rattle.mask_bits.proofs.Common.{◌*◌, IsNoneTrue}
use Rattle.mask_bits.proofs.compare.none_in_blocks.Given as goal

-- there is none in the blocks before
abbrev pub invariant-loop-k : goal.invariant-loop-k
invariant-loop-k g l = IsNoneTrue g.C.BitOp.of_bits l.a.bytes.now l.a.low l.b.bytes.now l.b.low (64 * (32 * l.k))
