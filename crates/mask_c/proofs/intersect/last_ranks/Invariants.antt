use Rattle.mask_c.proofs.LastRankLemmas.{AreGathered}
use Rattle.mask_c.proofs.intersect.last_ranks.Given as goal

-- the ranks from number `cut` on are set bits
abbrev pub invariant-loop-cut : goal.invariant-loop-cut
invariant-loop-cut l = AreGathered l.ranks l.from l.cut l.bits

abbrev pub decreases-loop-cut : goal.decreases-loop-cut
decreases-loop-cut l = l.cut
