use Rattle.vortex_mask.proofs.Common.{◌-◌, length, IsGathered}
use Rattle.vortex_mask.proofs.intersect_by_rank.kernels.rank_lists.bits_of_most.Given as goal

-- the ranks before the next one are set bits
abbrev pub invariant-loop-next : goal.invariant-loop-next
invariant-loop-next l = IsGathered l.ranks l.at l.end l.next l.bits

abbrev pub decreases-loop-next : goal.decreases-loop-next
decreases-loop-next l = length l.ranks - l.next
