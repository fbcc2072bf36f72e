use Rattle.vortex_mask.proofs.Common.{◌≡◌, drop, first_mixed}
use Rattle.vortex_mask.proofs.intersect_by_rank.stack.begins_by_lists.Given as goal

-- no mask so far is mixed
abbrev pub invariant-loop-mask : goal.invariant-loop-mask
invariant-loop-mask l = first_mixed (drop l.mask-index l.masks) ≡ first_mixed l.masks
