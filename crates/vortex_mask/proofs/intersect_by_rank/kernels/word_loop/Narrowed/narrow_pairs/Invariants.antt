use Rattle.vortex_mask.proofs.Common.{◌≡◌, ◌-◌, ◌*◌, ◌/◌, ◌≤◌, length, narrowed_by, IsDeposited}
use Rattle.vortex_mask.proofs.intersect_by_rank.kernels.word_loop.Narrowed.narrow_pairs.Given as goal

-- the pairs of words before took their deposits, and their rank bits are passed
abbrev pub invariant-loop-self : goal.invariant-loop-self
invariant-loop-self g l = record {
  past : l.fn.self.pairs ≤ l.self.pairs;
  unmoved : l.self.pairs ≡ l.fn.self.pairs → l.self.at ≡ l.fn.self.at;
  there : l.self.pairs ≤ length l.chunks / 128;
  passed : g.R.RankWords.IsPassed l.ranks l.self.next l.self.at;
  narrowed : IsDeposited l.chunks (narrowed_by (g.R.RankWords.bit l.ranks) l.chunks) (2 * l.self.pairs) (g.R.RankWords.number l.ranks l.self.at) l.out (g.C.CountSteps.step_counts l.self.steps);
}

abbrev pub decreases-loop-self : goal.decreases-loop-self
decreases-loop-self g l = length l.chunks / 128 - l.self.pairs
