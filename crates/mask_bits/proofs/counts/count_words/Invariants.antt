use Rattle.mask_bits.proofs.Common.{◌≡◌, ◌*◌, bitmap, count}
use Rattle.mask_bits.proofs.counts.count_words.Given as goal

-- the ones of the words so far
abbrev pub invariant-loop-i : goal.invariant-loop-i
invariant-loop-i l = l.count ≡ count (bitmap l.bytes 0 (64 * l.i))
