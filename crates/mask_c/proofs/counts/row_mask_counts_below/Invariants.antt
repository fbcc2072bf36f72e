use Rattle.mask_c.proofs.Common.{ℕ, ◌≡◌, ◌<◌, ◌≤◌, length, get_or, bitmap, count_below}
use Rattle.mask_c.proofs.counts.row_mask_counts_below.Given as goal

-- the counts so far, of which the last runs on, and no index to come is below where it stands
abbrev pub invariant-loop-i : goal.invariant-loop-i
invariant-loop-i l = record {
  within : l.from ≤ l.len;
  below : l.below ≡ count_below (bitmap l.bytes l.offset l.len) l.from;
  counts : (k : ℕ) → k < l.i → get_or l.out k 0 ≡ count_below (bitmap l.bytes l.offset l.len) (get_or l.indices k 0);
  behind : (k : ℕ) → l.i ≤ k → k < length l.indices → l.from ≤ get_or l.indices k 0;
}
