use Rattle.mask_bits.proofs.Common.{◌+◌, ◌-◌, length, map, GoesOn}
use Rattle.mask_bits.proofs.common_indices.merge_rest.Given as goal

abbrev pub invariant-loop-list : goal.invariant-loop-list
invariant-loop-list g l =
    let row = g.N.RowIndex.row_number in
    GoesOn (map row l.fn.list) (map row l.list) (map row l.other) l.fn.at.list l.fn.at.other l.fn.at.found l.at.list l.at.other l.at.found

abbrev pub decreases-loop-list : goal.decreases-loop-list
decreases-loop-list g l = (length l.list + length l.other) - (l.at.list + l.at.other)

abbrev pub invariant-loop-at : goal.invariant-loop-at
invariant-loop-at g l =
    let row = g.N.RowIndex.row_number in
    GoesOn (map row l.fn.list) (map row l.list) (map row l.other) l.fn.at.list l.fn.at.other l.fn.at.found l.at.list l.at.other l.at.found

abbrev pub decreases-loop-at : goal.decreases-loop-at
decreases-loop-at g l = (length l.list + length l.other) - (l.at.list + l.at.other)
