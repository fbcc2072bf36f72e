use Rattle.mask_bits.proofs.Common.{◌≡◌, ◌*◌, AreCombined, bitmap, combined, count}
use Rattle.mask_bits.proofs.combine.count_words.Given as goal

-- the words before are written, and those of their values counted that are true
abbrev pub invariant-loop-i : goal.invariant-loop-i
invariant-loop-i g l = record {
  list : AreCombined g.C.BitOp.of_bits l.a.bytes.now l.a.low l.b.bytes.now l.b.low l.out (64 * l.i);
  counted : l.count ≡ count (combined g.C.BitOp.of_bits (bitmap l.a.bytes.now l.a.low (64 * l.i)) (bitmap l.b.bytes.now l.b.low (64 * l.i)));
}
