use Rattle.vortex_mask.proofs.Common.{ℕ, ◌≡◌, ◌<◌, ◌≤◌, length, map, take, get_or, values, count_below}
use Rattle.std.specs.Vec.{vec_capacity, vec_len}
use Rattle.vortex_mask.proofs.mask.counts_below.Given as goal

-- the counts so far, in room for all, of which the last runs on, and no index to come is below where it stands
abbrev pub invariant-loop-index : goal.invariant-loop-index
invariant-loop-index l = record {
  counts : l.counts.items ≡ map (count_below (values l.buffer)) (take l.index-index l.indices);
  len : vec_len l.counts ≡ l.index-index;
  room : vec_capacity l.counts ≡ length l.indices;
  count : l.count ≡ count_below (values l.buffer) l.counted_to;
  behind : (k : ℕ) → l.index-index ≤ k → k < length l.indices → l.counted_to ≤ get_or l.indices k 0;
}
