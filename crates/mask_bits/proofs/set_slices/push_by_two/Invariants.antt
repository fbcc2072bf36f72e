use Rattle.mask_bits.proofs.Common.{◌≡◌, ◌-◌, ◌++◌, vec_len, vec_capacity, AreEdges, ArePushed, runs_between}
use Rattle.mask_bits.proofs.set_slices.push_by_two.Given as goal

abbrev pub invariant-loop-left : goal.invariant-loop-left
invariant-loop-left l = record {
  pushed : ArePushed (l.fn.ranges.items ++ runs_between l.base l.fn.edges.first l.fn.edges.starts l.fn.edges.ends) l.ranges.items (runs_between l.base l.left.first l.left.starts l.left.ends);
  edges : AreEdges l.base l.left.starts l.left.ends;
  room : vec_capacity l.ranges ≡ vec_capacity l.fn.ranges;
}

abbrev pub decreases-loop-left : goal.decreases-loop-left
decreases-loop-left l = l.end - vec_len l.ranges
