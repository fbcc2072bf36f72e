use Rattle.mask_bits.proofs.Common.{◌*◌, bitmap, IsWrittenBehind}
use Rattle.mask_bits.proofs.write_bits.put_words.Given as goal

-- the words so far are written
abbrev pub invariant-loop-i : goal.invariant-loop-i
invariant-loop-i g l = IsWrittenBehind l.initial.bytes l.bytes (64 * l.first) (bitmap l.from.bytes.now l.from.low (64 * l.i))
