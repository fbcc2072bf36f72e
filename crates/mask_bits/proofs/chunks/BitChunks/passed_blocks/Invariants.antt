use Rattle.mask_bits.proofs.Common.{◌≡◌, ◌+◌, ◌*◌, ◌-◌, ◌≤◌, take, length, count}
use Rattle.mask_bits.proofs.chunks.BitChunks.passed_blocks.Given as goal

-- the true values of the blocks so far, and those still to pass
abbrev pub invariant-loop-word : goal.invariant-loop-word
invariant-loop-word l = record {
  within : 64 * l.word ≤ length l.self;
  passed : l.n ≡ count (take (64 * l.word) l.self) + l.rest;
}

abbrev pub decreases-loop-word : goal.decreases-loop-word
decreases-loop-word l = length l.self - 64 * l.word
