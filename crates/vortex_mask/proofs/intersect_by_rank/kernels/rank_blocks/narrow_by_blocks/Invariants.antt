use Rattle.vortex_mask.proofs.Common.{◌*◌, ◌-◌, ◌/◌, ◌≤◌, length, AreSplit, is_listed, narrowed_by, IsDeposited}
use Rattle.vortex_mask.proofs.intersect_by_rank.kernels.rank_blocks.narrow_by_blocks.Given as goal

-- the pairs of words before took their deposits, and the ranks below the running place are passed
abbrev pub invariant-loop-done : goal.invariant-loop-done
invariant-loop-done g l = record {
  there : l.done.pairs ≤ length l.chunks / 128;
  narrowed : IsDeposited l.chunks (narrowed_by (is_listed l.ranks) l.chunks) (2 * l.done.pairs) l.done.at l.out (g.C.CountSteps.step_counts l.done.steps);
  split : AreSplit l.ranks l.done.next l.done.at;
}

abbrev pub decreases-loop-done : goal.decreases-loop-done
decreases-loop-done g l = length l.chunks / 128 - l.done.pairs
