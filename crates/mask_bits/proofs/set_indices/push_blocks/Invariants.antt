use Rattle.mask_bits.proofs.Common.{◌≡◌, ◌≤◌, ◌-◌, ◌*◌, take, vec_capacity, positions}
use Rattle.mask_bits.proofs.set_indices.push_blocks.Given as goal

-- the indices in the blocks so far
abbrev pub invariant-loop-i : goal.invariant-loop-i
invariant-loop-i l = record {
  items : l.indices.items ≡ positions (take (256 * l.i) l.chunks);
  within : l.i ≤ l.blocks;
  capacity : vec_capacity l.indices ≡ vec_capacity l.fn.indices;
}

abbrev pub decreases-loop-i : goal.decreases-loop-i
decreases-loop-i l = l.blocks - l.i
