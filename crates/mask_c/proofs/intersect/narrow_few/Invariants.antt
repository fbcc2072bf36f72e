use Rattle.mask_c.proofs.Common.{ℕ, ◌≡◌, ◌*◌, ◌<◌, values, count_below, rank_intersection, padded_part, window}
use Rattle.mask_c.proofs.intersect.narrow_few.Given as goal

-- the words so far, and how many values are true before the next one
abbrev pub invariant-loop-i : goal.invariant-loop-i
invariant-loop-i l = record {
  place : l.at ≡ count_below l.chunks (64 * l.i);
  words : (k : ℕ) → k < l.i → window l.out (64 * k) ≡ padded_part (rank_intersection l.chunks (values l.ranks)) k;
}
