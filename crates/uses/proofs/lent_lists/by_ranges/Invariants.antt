use Rattle.std.proofs.Common.{◌≡◌, take, flat_map, slice_range}
use Rattle.uses.proofs.lent_lists.by_ranges.Given as goal

-- the rows of the ranges so far are copied
abbrev pub invariant-loop-start : goal.invariant-loop-start
invariant-loop-start g l = l.copied.items ≡ flat_map (λ r. slice_range l.rows r.0 r.1) (take l.start-index l.ranges)
