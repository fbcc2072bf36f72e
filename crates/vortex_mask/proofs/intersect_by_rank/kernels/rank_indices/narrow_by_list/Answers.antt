use Rattle.vortex_mask.proofs.Common.{arith, count-le-length}
use Rattle.vortex_mask.proofs.intersect_by_rank.kernels.rank_indices.narrow_by_list.Goals as goal

pub narrow_rest-requires-clause-ranks : goal.narrow_rest-requires-clause-ranks
narrow_rest-requires-clause-ranks g c = omega (arith, c.requires.fits, count-le-length c.args.chunks.now)
