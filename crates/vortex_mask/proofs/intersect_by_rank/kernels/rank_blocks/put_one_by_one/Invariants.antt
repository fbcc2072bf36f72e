use Rattle.vortex_mask.proofs.Common.{◌≡◌, ℕ, ◌+◌, ◌-◌, ◌<◌, ◌≤◌, length, get_or, take, nat_eq, list_any, backing_bit}
use Rattle.vortex_mask.proofs.intersect_by_rank.kernels.rank_blocks.put_one_by_one.Given as goal

-- the ranks before the next one are set bits
abbrev pub invariant-loop-next : goal.invariant-loop-next
invariant-loop-next l = record {
  within : l.next ≤ length l.ranks;
  from : (j : ℕ) → l.next ≤ j → j < length l.ranks → l.base ≤ get_or l.ranks j 0;
  bits : (k : ℕ) → k < 4096 → backing_bit l.block k ≡ list_any (nat_eq (l.base + k)) (take l.next l.ranks);
}

abbrev pub decreases-loop-next : goal.decreases-loop-next
decreases-loop-next l = length l.ranks - l.next
