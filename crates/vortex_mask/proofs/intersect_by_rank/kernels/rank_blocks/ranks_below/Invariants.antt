use Rattle.vortex_mask.proofs.Common.{ℕ, ◌<◌, ◌≤◌, length, get_or}
use Rattle.vortex_mask.proofs.intersect_by_rank.kernels.rank_blocks.ranks_below.Given as goal

-- none is below the limit from the running number on
abbrev pub invariant-loop-below : goal.invariant-loop-below
invariant-loop-below l = record {
  within : l.below ≤ length l.ranks;
  past : (k : ℕ) → l.below ≤ k → k < length l.ranks → l.limit ≤ get_or l.ranks k 0;
}

abbrev pub decreases-loop-below : goal.decreases-loop-below
decreases-loop-below l = l.below
