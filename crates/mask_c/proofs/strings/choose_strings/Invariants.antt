use Rattle.mask_c.proofs.Common.{◌≡◌, ◌+◌, ◌*◌, ◌<◌, ◌≤◌, ◌++◌, drop, length, map, take, All, concat, sum, positions, items_at, sizes, strings}
use Rattle.mask_c.proofs.strings.choose_strings.Given as goal

-- the strings so far and those that wait are the strings of the words so far, and what is behind them is as it was
abbrev pub invariant-loop-i : goal.invariant-loop-i
invariant-loop-i g l = record {
  strings : take l.at l.out ++ concat (items_at (strings (map g.O.Offset.number l.offsets) l.string_bytes) (take l.waiting l.block))
      ≡ concat (items_at (strings (map g.O.Offset.number l.offsets) l.string_bytes) (positions (take (64 * l.i) l.chunks)));
  size : l.at + sum (items_at (sizes (map g.O.Offset.number l.offsets)) (take l.waiting l.block))
      ≡ sum (items_at (sizes (map g.O.Offset.number l.offsets)) (positions (take (64 * l.i) l.chunks)));
  within : All (λ p. p + 1 < length l.offsets) (take l.waiting l.block);
  few : l.waiting ≤ 64;
  behind : drop l.at l.out ≡ drop l.at l.fn.out;
}
