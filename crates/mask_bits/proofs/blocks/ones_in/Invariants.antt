use Rattle.mask_bits.proofs.Common.{◌≡◌, ◌≤◌, ◌+◌, ◌*◌, drop, count, bits_of_words}
use Rattle.mask_bits.proofs.blocks.ones_in.Given as goal

-- those so far, and those that are left, are all
abbrev pub invariant-loop-j : goal.invariant-loop-j
invariant-loop-j l = record {
  count : l.ones + count (bits_of_words (drop l.j l.words)) ≡ count (bits_of_words l.words);
  few : l.ones ≤ 64 * l.j;
}
