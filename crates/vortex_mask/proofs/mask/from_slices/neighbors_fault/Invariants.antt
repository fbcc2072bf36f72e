use Rattle.vortex_mask.proofs.Common.{◌≡◌, ◌-◌, drop, neighbors_fault_from}
use Rattle.vortex_mask.proofs.mask.from_slices.neighbors_fault.Given as goal

abbrev pub invariant-loop-at : goal.invariant-loop-at
invariant-loop-at l = neighbors_fault_from (l.at - 1) (drop (l.at - 1) l.ranges) ≡ neighbors_fault_from 0 l.ranges
