use Rattle.vortex_mask.proofs.Common.{◌≡◌, take, at_indices}
use Rattle.vortex_mask.proofs.intersect_by_rank.kernels.indices.intersect_by_rank_indices_with.Given as goal

abbrev pub invariant-loop-rank : goal.invariant-loop-rank
invariant-loop-rank g l = l.indices.items ≡ at_indices l.self_indices (take l.rank-index l.mask_indices)
