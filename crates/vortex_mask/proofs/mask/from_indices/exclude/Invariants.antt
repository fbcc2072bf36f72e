use Rattle.vortex_mask.proofs.Common.{◌≡◌, ◌*◌, ◌≤◌, length, first_past, bitmap}
use Rattle.vortex_mask.proofs.Masks.ExcludedLemmas.{without}
use Rattle.vortex_mask.proofs.mask.from_indices.exclude.Given as goal

-- the list is false at the indices so far, and the first of them past its end is noted
abbrev pub invariant-loop-index : goal.invariant-loop-index
invariant-loop-index g l = record {
  covered : l.fn.len ≤ 8 * length l.bytes;
  list : bitmap l.bytes 0 l.fn.len ≡ without l.fn.len l.yielded;
  past : l.past_end ≡ first_past l.fn.len l.yielded;
}
