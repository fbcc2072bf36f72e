use Rattle.mask_bits.proofs.Common.{◌≡◌, ◌*◌, bitmap, combined, count}
use Rattle.mask_bits.proofs.compare.count_on.Given as goal

-- those of the words before are counted
abbrev pub invariant-loop-i : goal.invariant-loop-i
invariant-loop-i g l = l.count ≡ count (combined g.C.BitOp.of_bits (bitmap l.a.bytes.now l.a.low (64 * l.i)) (bitmap l.b.bytes.now l.b.low (64 * l.i)))
