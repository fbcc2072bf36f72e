use Rattle.mask_bits.proofs.Common.{ℕ, ◌-◌, ◌<◌, ◌≤◌, length, map, get_or, IsStrictlyIncreasing}
use Rattle.mask_bits.proofs.common_indices.place_of.Given as goal

-- in an ascending list those before `low` are below
abbrev pub invariant-loop-high : goal.invariant-loop-high
invariant-loop-high g l =
    let xs = map g.N.RowIndex.row_number l.list in
    record {
      from : l.from ≤ l.high;
      order : l.low ≤ l.high;
      within : l.low ≤ length l.list;
      before : IsStrictlyIncreasing xs → ((k : ℕ) → k < l.from → get_or xs k 0 < l.least) → (k : ℕ) → k < l.low → get_or xs k 0 < l.least;
    }

abbrev pub decreases-loop-high : goal.decreases-loop-high
decreases-loop-high g l = length l.list - l.high
