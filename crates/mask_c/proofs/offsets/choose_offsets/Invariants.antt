use Rattle.mask_c.proofs.Common.{◌≡◌, ◌+◌, ◌*◌, drop, map, take, sum, count, positions, items_at, offsets_of, sizes}
use Rattle.mask_c.proofs.offsets.choose_offsets.Given as goal

-- the offsets of the words so far, and what is behind them as it was
abbrev pub invariant-loop-i : goal.invariant-loop-i
invariant-loop-i g l = record {
  offsets : take l.at (map g.O.Offset.number l.out) ≡ offsets_of (items_at (sizes (map g.O.Offset.number l.offsets)) (positions (take (64 * l.i) l.chunks)));
  total : l.end ≡ sum (items_at (sizes (map g.O.Offset.number l.offsets)) (positions (take (64 * l.i) l.chunks)));
  counted : l.at ≡ count (take (64 * l.i) l.chunks) + 1;
  behind : drop l.at (map g.O.Offset.number l.out) ≡ drop l.at (map g.O.Offset.number l.fn.out);
}
