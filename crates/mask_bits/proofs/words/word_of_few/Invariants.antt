use Rattle.mask_bits.proofs.Common.{◌≡◌, ◌≤◌, length, drop, number}
use Rattle.mask_bits.proofs.words.word_of_few.Given as goal

-- the number of the bytes from one on
abbrev pub invariant-loop-left : goal.invariant-loop-left
invariant-loop-left l = record {
  within : l.left ≤ length l.bytes;
  read : l.word ≡ number (drop l.left l.bytes);
}

abbrev pub decreases-loop-left : goal.decreases-loop-left
decreases-loop-left l = l.left
