use Rattle.mask_c.proofs.Common.{◌≡◌, ◌+◌, ◌*◌, length, map, min, take, count, positions}
use Rattle.mask_c.proofs.indices.next_indices.Given as goal

-- the indices of the words so far, as many as there is room for
abbrev pub invariant-loop-i : goal.invariant-loop-i
invariant-loop-i g l =
    let of = g.N.RowIndex.index_of in
    record {
      indices : take l.at l.out ≡ take (length l.out) (map (λ p. of (l.from + p)) (positions (take (64 * l.i) l.chunks)));
      counted : l.at ≡ min (length l.out) (count (take (64 * l.i) l.chunks));
    }
