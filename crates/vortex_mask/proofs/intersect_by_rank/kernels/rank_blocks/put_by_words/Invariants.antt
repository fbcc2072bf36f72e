use Rattle.vortex_mask.proofs.Common.{◌≡◌, ℕ, ◌+◌, ◌-◌, ◌*◌, ◌<◌, ◌^◌, min, nat_eq, list_any, backing_bit, AreSplit}
use Rattle.vortex_mask.proofs.intersect_by_rank.kernels.rank_blocks.put_by_words.Given as goal

-- the words before have the ranks below the running place
abbrev pub invariant-loop-i : goal.invariant-loop-i
invariant-loop-i l = record {
  place : l.at ≡ min (l.base + 64 * l.i) (2 ^ 64 - 1);
  split : AreSplit l.ranks l.next l.at;
  bits : (k : ℕ) → k < 64 * l.i → l.base + k + 1 < 2 ^ 64 → backing_bit l.block k ≡ list_any (nat_eq (l.base + k)) l.ranks;
}
