use Rattle.mask_bits.proofs.Common.{◌≡◌, ◌*◌, ◌≤◌, ℕ, nat_eq, take, vec_len, list_any, backing_bit}
use Rattle.mask_bits.proofs.buffer.BitBuffer.from_indices.Given as goal

-- the bits set so far are at the indices so far
abbrev pub invariant-loop-index : goal.invariant-loop-index
invariant-loop-index l = record {
  covered : l.len ≤ 8 * vec_len l.bytes;
  bits : (p : ℕ) → backing_bit l.bytes.items p ≡ list_any (nat_eq p) (take l.index-index l.indices);
}
