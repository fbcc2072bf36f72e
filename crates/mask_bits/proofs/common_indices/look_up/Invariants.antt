use Rattle.mask_bits.proofs.Common.{◌≡◌, ℕ, ◌<◌, ◌≤◌, length, map, get_or, take, common, IsStrictlyIncreasing}
use Rattle.mask_bits.proofs.common_indices.look_up.Given as goal

-- those to come are as they were; where the lists ascend, those found are the ones in common among the indices so far, and what lies
-- before the place is below those to come
abbrev pub invariant-loop-i : goal.invariant-loop-i
invariant-loop-i g l =
    let now = map g.N.RowIndex.row_number l.short in
    let xs = map g.N.RowIndex.row_number l.initial.short in
    let ys = map g.N.RowIndex.row_number l.long in
    record {
      within : l.from ≤ length l.long;
      fewer : l.found ≤ l.i;
      kept : (k : ℕ) → l.i ≤ k → get_or now k 0 ≡ get_or xs k 0;
      passed : IsStrictlyIncreasing xs → IsStrictlyIncreasing ys → (k j : ℕ) → k < l.from → l.i ≤ j → j < length l.short → get_or ys k 0 < get_or xs j 0;
      found : IsStrictlyIncreasing xs → IsStrictlyIncreasing ys → take l.found now ≡ common (take l.i xs) ys;
    }
