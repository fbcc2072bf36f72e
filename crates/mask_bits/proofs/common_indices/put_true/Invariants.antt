use Rattle.mask_bits.proofs.Common.{◌≡◌, ◌≤◌, false, length, get_or, take, drop, filter, bitmap}
use Rattle.mask_bits.proofs.common_indices.put_true.Given as goal

-- those of the indices so far, and what is behind the room for all
abbrev pub invariant-loop-k : goal.invariant-loop-k
invariant-loop-k g l = record {
  fewer : l.found ≤ l.k;
  found : take l.found l.out ≡ filter (λ i. get_or (bitmap l.bytes l.offset l.len) (g.N.RowIndex.row_number i) false) (take l.k l.indices);
  behind : drop (length l.indices) l.out ≡ drop (length l.indices) l.initial.out;
}
