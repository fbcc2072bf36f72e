use Rattle.mask_bits.proofs.Common.{◌≡◌, ◌*◌, ◌↔◌, IsNoneTrue}
use Rattle.mask_bits.proofs.compare.none_in_block.Given as goal

-- `found` tells whether there is none in the words before
abbrev pub invariant-loop-i : goal.invariant-loop-i
invariant-loop-i g l = (l.found ≡ 0) ↔ IsNoneTrue g.C.BitOp.of_bits l.a.bytes.now l.a.low l.b.bytes.now l.b.low (64 * l.i)
