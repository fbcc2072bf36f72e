use Rattle.mask_bits.proofs.Common.{◌+◌, ◌≤◌, map, GoesOn}
use Rattle.mask_bits.proofs.common_indices.eight_steps.Given as goal

-- a step goes on by one in a list at most, and by one in all at least
abbrev pub invariant-loop-k : goal.invariant-loop-k
invariant-loop-k g l =
    let row = g.N.RowIndex.row_number in
    record {
      merged : GoesOn (map row l.initial.list) (map row l.list) (map row l.other) l.fn.at.list l.fn.at.other l.fn.at.found l.next.list l.next.other l.next.found;
      few_list : l.next.list ≤ l.fn.at.list + l.k;
      few_other : l.next.other ≤ l.fn.at.other + l.k;
      some : l.fn.at.list + l.fn.at.other + l.k ≤ l.next.list + l.next.other;
    }
