use Rattle.mask_bits.proofs.Common.{ℕ, ◌-◌, ◌<◌, ◌≤◌, length, map, get_or, IsStrictlyIncreasing}
use Rattle.mask_bits.proofs.common_indices.place_between.Given as goal

-- in an ascending list those before `low` are below, and those from `high` on aren't
abbrev pub invariant-loop-low : goal.invariant-loop-low
invariant-loop-low g l =
    let xs = map g.N.RowIndex.row_number l.list in
    record {
      order : l.low ≤ l.high;
      within : l.high ≤ length l.list;
      before : IsStrictlyIncreasing xs → ((k : ℕ) → k < l.fn.low → get_or xs k 0 < l.least) → (k : ℕ) → k < l.low → get_or xs k 0 < l.least;
      after : IsStrictlyIncreasing xs → ((k : ℕ) → l.fn.high ≤ k → k < length l.list → l.least ≤ get_or xs k 0) → (k : ℕ) → l.high ≤ k → k < length l.list → l.least ≤ get_or xs k 0;
    }

abbrev pub decreases-loop-low : goal.decreases-loop-low
decreases-loop-low g l = l.high - l.low
