use Rattle.vortex_mask.proofs.Common.{◌≡◌, ◌+◌, ◌-◌, ◌*◌, ◌≤◌, length, option_map, count_ones, HasRead, StepCounts}
use Rattle.vortex_mask.proofs.intersect_by_rank.kernels.mask_driven.Reached.index_of.Given as goal

-- the words so far, and the true values up to the end of the last
abbrev pub invariant-loop-end : goal.invariant-loop-end
invariant-loop-end g l = record {
  read : HasRead l.chunks l.self.words l.self.word l.self.before;
  ends : l.end ≡ l.self.before + count_ones l.self.word;
  reached : l.self.before ≤ l.rank;
  ticked : g.C.CountSteps.step_counts l.steps ≡ option_map (λ (s : StepCounts). record s { words = l.self.words }) (g.C.CountSteps.step_counts l.fn.steps);
}

abbrev pub decreases-loop-end : goal.decreases-loop-end
decreases-loop-end g l = length l.chunks - 64 * l.self.words
