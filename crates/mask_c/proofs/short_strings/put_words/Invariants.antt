use Rattle.std.proofs.Common.{◌≡◌, ◌+◌, ◌*◌, ◌++◌, drop, slice_range, take}
use Rattle.mask_c.proofs.short_strings.put_words.Given as goal

-- the words so far, and what is behind them as it was
abbrev pub invariant-loop-j : goal.invariant-loop-j
invariant-loop-j g l = record {
  bytes : take (l.at + 8 * l.j) l.out ≡ take l.at l.fn.out ++ slice_range l.bytes l.begin (l.begin + 8 * l.j);
  behind : drop (l.at + 8 * l.j) l.out ≡ drop (l.at + 8 * l.j) l.fn.out;
}
