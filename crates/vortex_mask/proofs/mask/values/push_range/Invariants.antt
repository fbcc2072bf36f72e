use Rattle.vortex_mask.proofs.Common.{◌≡◌, ◌+◌, ◌-◌, ◌++◌, range_with_len}
use Rattle.std.specs.Vec.{vec_capacity, vec_len}
use Rattle.vortex_mask.proofs.mask.values.push_range.Given as goal

-- the indices from the first on
abbrev pub invariant-loop-index : goal.invariant-loop-index
invariant-loop-index l = record {
  items : l.indices.items ≡ l.initial.indices.items ++ range_with_len l.start (l.index - l.start);
  len : vec_len l.indices ≡ vec_len l.initial.indices + (l.index - l.start);
  capacity : vec_capacity l.indices ≡ vec_capacity l.initial.indices;
}
