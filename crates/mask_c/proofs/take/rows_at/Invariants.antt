use Rattle.mask_c.proofs.Common.{◌≡◌, drop, take, slice_get}
use Rattle.std.specs.List.{filter_map}
use Rattle.mask_c.proofs.take.rows_at.Given as goal

-- the rows at the indices so far, and what is behind them as it was
abbrev pub invariant-loop-k : goal.invariant-loop-k
invariant-loop-k g l = record {
  rows : take l.k l.out ≡ filter_map (λ i. slice_get l.rows (g.N.RowIndex.row_number i)) (take l.k l.indices);
  behind : drop l.k l.out ≡ drop l.k l.fn.out;
}
