use Rattle.vortex_mask.proofs.Common.{◌≡◌, ◌-◌, nat_eq, drop, first_repeated, first_pair_from}
use Rattle.vortex_mask.proofs.mask.from_indices.first_repeated.Given as goal

-- the first such pair is among those from the index before this one on
abbrev pub invariant-loop-at : goal.invariant-loop-at
invariant-loop-at l = first_pair_from (λ x y. nat_eq y x) (l.at - 1) (drop (l.at - 1) l.indices) ≡ first_repeated l.indices
