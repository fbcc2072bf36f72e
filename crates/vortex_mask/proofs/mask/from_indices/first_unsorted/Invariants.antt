use Rattle.vortex_mask.proofs.Common.{◌≡◌, ◌-◌, nat_lt, drop, first_unsorted, first_pair_from}
use Rattle.vortex_mask.proofs.mask.from_indices.first_unsorted.Given as goal

-- the first such pair is among those from the index before this one on
abbrev pub invariant-loop-at : goal.invariant-loop-at
invariant-loop-at l = first_pair_from (λ x y. nat_lt y x) (l.at - 1) (drop (l.at - 1) l.indices) ≡ first_unsorted l.indices
