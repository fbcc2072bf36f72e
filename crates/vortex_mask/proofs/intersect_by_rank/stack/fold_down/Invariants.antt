use Rattle.vortex_mask.proofs.Common.{◌≡◌, ◌<◌, drop, length, map, folded_left, truth}
use Rattle.vortex_mask.proofs.intersect_by_rank.stack.fold_down.Given as goal

-- the masks from number i on are folded
abbrev pub invariant-loop-i : goal.invariant-loop-i
invariant-loop-i l = record {
  within : l.i < length l.masks;
  folded : truth l.narrowed ≡ folded_left (map truth (drop l.i l.masks));
}

abbrev pub decreases-loop-i : goal.decreases-loop-i
decreases-loop-i l = l.i
