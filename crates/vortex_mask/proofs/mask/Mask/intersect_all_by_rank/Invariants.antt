use Rattle.vortex_mask.proofs.Common.{◌≡◌, caches}
use Rattle.vortex_mask.proofs.Masks.FoldLemmas.{IsFoldSoFar}
use Rattle.vortex_mask.proofs.mask.Mask.intersect_all_by_rank.Given as goal

-- the masks so far are folded, and before the first of them the result is a clone
abbrev pub invariant-loop-mask : goal.invariant-loop-mask
invariant-loop-mask l = record {
  fold : IsFoldSoFar l.self l.masks l.mask-index l.narrowed;
  alone : l.mask-index ≡ 0 → caches l.narrowed ≡ caches l.self;
}
