use Rattle.mask_bits.proofs.Common.{◌+◌, ◌-◌, length, map, GoesOn}
use Rattle.mask_bits.proofs.common_indices.merge_both.Given as goal

abbrev pub invariant-loop-last : goal.invariant-loop-last
invariant-loop-last g l =
    let row = g.N.RowIndex.row_number in
    record {
      first : GoesOn (map row l.initial.first) (map row l.first) (map row l.other) 0 0 0 l.at.list l.at.other l.at.found;
      last : GoesOn (map row l.initial.last) (map row l.last) (map row l.last_other) 0 0 0 l.last_at.list l.last_at.other l.last_at.found;
    }

abbrev pub decreases-loop-last : goal.decreases-loop-last
decreases-loop-last g l = (length l.first + length l.other) - (l.at.list + l.at.other)
