use Rattle.vortex_mask.proofs.Common.{◌≡◌, ◌<◌, ap, ◌∙◌, arith, take_all, at_indices, All-at_indices}
use Rattle.vortex_mask.proofs.Lists.PlaceListLemmas.{at_indices-ascending}
use Rattle.vortex_mask.proofs.intersect_by_rank.kernels.indices.intersect_by_rank_indices_with.Goals as goal
use Rattle.vortex_mask.proofs.intersect_by_rank.kernels.indices.intersect_by_rank_indices_with.Goals.{After-loop-rank}
use Rattle.vortex_mask.proofs.intersect_by_rank.kernels.indices.intersect_by_rank_indices_with.Given.{Over}

-- the entries are made
made : (g : Over) (c : After-loop-rank g) → c.loop-rank.indices.items ≡ at_indices c.args.self_indices.now c.args.mask_indices.now
made g c = c.loop-rank.invariant ∙ ap (at_indices c.args.self_indices.now) (take_all c.loop-rank.rank-index c.args.mask_indices.now (omega arith))

pub of_indices-requires-clause-ascending : goal.of_indices-requires-clause-ascending
of_indices-requires-clause-ascending g c =
    rw (made g (goal.at.of_indices-requires-clause-ascending g c).After-loop-rank) (at_indices-ascending c.args.len c.args.self_indices.now c.args.mask_indices.now c.requires.self_ascending c.requires.self_within c.requires.mask_ascending c.requires.mask_within)

pub of_indices-requires-clause-within : goal.of_indices-requires-clause-within
of_indices-requires-clause-within g c =
    rw (made g (goal.at.of_indices-requires-clause-within g c).After-loop-rank) (All-at_indices (λ i. i < c.args.len) c.args.self_indices.now c.args.mask_indices.now c.requires.self_within c.requires.mask_within)
