use Rattle.mask_bits.proofs.Common.{◌≡◌, ◌*◌, take, vec_capacity, positions}
use Rattle.mask_bits.proofs.set_indices.push_in_turn.Given as goal

-- the indices in the words so far
abbrev pub invariant-loop-i : goal.invariant-loop-i
invariant-loop-i l = record {
  items : l.indices.items ≡ positions (take (64 * l.i) l.chunks);
  capacity : vec_capacity l.indices ≡ vec_capacity l.fn.indices;
}
