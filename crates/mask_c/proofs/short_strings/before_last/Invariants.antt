use Rattle.mask_c.proofs.Common.{◌≡◌, ◌+◌, ◌≤◌, length, map, take, sum, items_at, sizes}
use Rattle.mask_c.proofs.short_strings.before_last.Given as goal

-- the strings before and those behind are all
abbrev pub invariant-loop-behind : goal.invariant-loop-behind
invariant-loop-behind g l = record {
  within : l.first ≤ length l.indices;
  all : sum (items_at (sizes (map g.O.Offset.number l.offsets)) (take l.first l.indices)) + l.behind
      ≡ sum (items_at (sizes (map g.O.Offset.number l.offsets)) l.indices);
}

abbrev pub decreases-loop-behind : goal.decreases-loop-behind
decreases-loop-behind g l = l.first
