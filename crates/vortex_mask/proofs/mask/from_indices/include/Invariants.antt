use Rattle.vortex_mask.proofs.Common.{◌≡◌, first_past, true_at}
use Rattle.vortex_mask.proofs.mask.from_indices.include.Given as goal

-- the list is true at the indices so far, and the first of them past its end is noted
abbrev pub invariant-loop-index : goal.invariant-loop-index
invariant-loop-index g l = record {
  list : l.values ≡ true_at l.fn.len l.yielded;
  past : l.outside ≡ first_past l.fn.len l.yielded;
}
