use Rattle.vortex_mask.proofs.Common.{◌≡◌, ◌-◌, range_with_len, take}
use Rattle.std.specs.List.{flat_map}
use Rattle.std.specs.Vec.{vec_capacity, vec_len}
use Rattle.vortex_mask.specs.Ranges.{rows_held}
use Rattle.vortex_mask.proofs.mask.values.indices_in.Given as goal

-- the indices in the ranges before
abbrev pub invariant-loop-start : goal.invariant-loop-start
invariant-loop-start l = record {
  items : l.indices.items ≡ flat_map (λ r. range_with_len r.0 (r.1 - r.0)) (take l.start-index l.ranges);
  len : vec_len l.indices ≡ rows_held (take l.start-index l.ranges);
  capacity : vec_capacity l.indices ≡ l.count;
}
