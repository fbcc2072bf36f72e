use Rattle.vortex_mask.proofs.Kernels.DrivenLemmas.{AreFound}
use Rattle.vortex_mask.proofs.intersect_by_rank.kernels.mask_driven.intersect_mask_driven_with.Given as goal

-- the ranks so far have their indices
abbrev pub invariant-loop-rank : goal.invariant-loop-rank
invariant-loop-rank g l = AreFound l.chunks l.yielded l.reached.words l.reached.word l.reached.before l.indices.items (g.C.CountSteps.step_counts l.steps)
