use Rattle.vortex_mask.proofs.Common.{◌≡◌, refl, ap, ◌∙◌, arith, rules, YieldsList-from_slice, YieldsList-from_copied, YieldsList-from_first, YieldsList-at, values, positions, positions-ascending, positions-within}
use Rattle.vortex_mask.proofs.Kernels.PathLemmas.{list_from_ranks}
use Rattle.vortex_mask.proofs.Kernels.RankRunLemmas.{are_ranks}
use Rattle.vortex_mask.proofs.intersect_by_rank.narrow.by_selections.Goals as goal

pub intersect_mask_driven_with-requires-clause-ranks : goal.intersect_mask_driven_with-requires-clause-ranks
intersect_mask_driven_with-requires-clause-ranks g c =
    let same : c.in-Some.cached.now ≡ positions (values c.args.ranks.now.buffer) = search rules in
    are_ranks _ _ c.in-Some.cached.now (YieldsList-from_copied (YieldsList-at c.copied-ranks.ensures.source (YieldsList-from_slice c.in-Some.cached.now c.iter.ensures.rest)))
    _ _ (grind (arith, positions-ascending)) (grind (arith, positions-within)) (grind arith)

pub returns-in-Some-clause-narrowed : goal.returns-in-Some-clause-narrowed
returns-in-Some-clause-narrowed g c =
    let same : c.in-Some.cached.now ≡ positions (values c.args.ranks.now.buffer) = search rules in
    let list = list_from_ranks _ _ c.in-Some.cached.now (YieldsList-from_copied (YieldsList-at c.copied-ranks.ensures.source (YieldsList-from_slice c.in-Some.cached.now c.iter.ensures.rest)))
    _ _ _ c.intersect_mask_driven_with.result c.requires (ap values c.bit_buffer-buffer.ensures.buffer) same c.intersect_mask_driven_with.ensures.len c.intersect_mask_driven_with.ensures.whole in
    grind (arith, list)

pub returns-in-None-clause-narrowed : goal.returns-in-None-clause-narrowed
returns-in-None-clause-narrowed g c =
    let list = list_from_ranks _ _ c.set_indices-ranks.result (YieldsList-from_first (λ x. x) (λ s. s) c.set_indices-ranks.result refl)
    _ _ _ c.intersect_mask_driven_with-in-None.result c.requires (ap values c.bit_buffer-buffer.ensures.buffer) (c.set_indices-ranks.ensures.indices ∙ ap (λ v. positions (values v)) c.bit_buffer.ensures.buffer) c.intersect_mask_driven_with-in-None.ensures.len c.intersect_mask_driven_with-in-None.ensures.whole in
    grind (arith, list)
