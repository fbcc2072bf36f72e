use Rattle.mask_c.proofs.Common.{◌≡◌, ◌+◌, ◌++◌, drop, map, take, sum, ends_from, items_at, sizes}
use Rattle.mask_c.proofs.offsets.put_ends.Given as goal

-- the ends of the strings so far, and what is behind them as it was
abbrev pub invariant-loop-k : goal.invariant-loop-k
invariant-loop-k g l = record {
  ends : take (l.at + l.k) (map g.O.Offset.number l.out) ≡ take l.at (map g.O.Offset.number l.fn.out) ++ ends_from l.from (items_at (sizes (map g.O.Offset.number l.offsets)) (take l.k l.indices));
  total : l.end ≡ l.from + sum (items_at (sizes (map g.O.Offset.number l.offsets)) (take l.k l.indices));
  behind : drop (l.at + l.k) (map g.O.Offset.number l.out) ≡ drop (l.at + l.k) (map g.O.Offset.number l.fn.out);
}
