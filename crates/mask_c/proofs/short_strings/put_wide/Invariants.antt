use Rattle.mask_c.proofs.Common.{◌≡◌, ◌+◌, ◌++◌, drop, map, take, concat, sum, items_at, sizes, strings}
use Rattle.mask_c.proofs.short_strings.put_wide.Given as goal

-- the strings so far, and what is behind all as it was
abbrev pub invariant-loop-k : goal.invariant-loop-k
invariant-loop-k g l = record {
  strings : take l.written l.out
      ≡ take l.at l.fn.out ++ concat (items_at (strings (map g.O.Offset.number l.offsets) l.string_bytes) (take l.k l.indices));
  size : l.written ≡ l.at + sum (items_at (sizes (map g.O.Offset.number l.offsets)) (take l.k l.indices));
  behind : drop (l.at + sum (items_at (sizes (map g.O.Offset.number l.offsets)) l.indices)) l.out
      ≡ drop (l.at + sum (items_at (sizes (map g.O.Offset.number l.offsets)) l.indices)) l.fn.out;
}
