use Rattle.mask_c.proofs.Common.{◌≡◌, ◌+◌, ◌-◌, ◌≤◌, ◌++◌, drop, length, map, slice_range, take, concat, sum, items_at, sizes, strings}
use Rattle.mask_c.proofs.strings.put_runs.Given as goal

-- the bytes so far and those that wait are the strings so far
abbrev pub invariant-loop-k : goal.invariant-loop-k
invariant-loop-k g l = record {
  strings : take l.written l.out ++ slice_range l.string_bytes l.begin l.end
      ≡ take l.at l.fn.out ++ concat (items_at (strings (map g.O.Offset.number l.offsets) l.string_bytes) (take l.k l.indices));
  size : l.written + (l.end - l.begin) ≡ l.at + sum (items_at (sizes (map g.O.Offset.number l.offsets)) (take l.k l.indices));
  ordered : l.begin ≤ l.end;
  within : l.end ≤ length l.string_bytes;
  behind : drop l.written l.out ≡ drop l.written l.fn.out;
}
