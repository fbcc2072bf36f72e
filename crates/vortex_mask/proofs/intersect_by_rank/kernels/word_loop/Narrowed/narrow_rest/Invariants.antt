use Rattle.vortex_mask.proofs.Common.{narrowed_by, IsDeposited}
use Rattle.vortex_mask.proofs.intersect_by_rank.kernels.word_loop.Narrowed.narrow_rest.Given as goal

-- the words before took their deposits, and their rank bits are passed
abbrev pub invariant-loop-i : goal.invariant-loop-i
invariant-loop-i g l = record {
  passed : g.R.RankWords.IsPassed l.ranks l.done.next l.done.at;
  narrowed : IsDeposited l.chunks (narrowed_by (g.R.RankWords.bit l.ranks) l.chunks) l.i (g.R.RankWords.number l.ranks l.done.at) l.out (g.C.CountSteps.step_counts l.done.steps);
}
