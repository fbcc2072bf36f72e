use Rattle.vortex_mask.proofs.Common.{◌≡◌, map, range_with_len, group, truth}
use Rattle.vortex_mask.proofs.mask.Mask.groups.Given as goal

-- the groups so far are made
abbrev pub invariant-loop-number : goal.invariant-loop-number
invariant-loop-number l = map truth l.groups.items ≡ map (group (truth l.self) l.size) (range_with_len 0 l.number)
