use Rattle.mask_bits.proofs.Common.{[], arith, length-append, append-nil}
use Rattle.mask_bits.proofs.set_slices.push_runs.Goals as goal

pub push_by_two-requires-clause-room : goal.push_by_two-requires-clause-room
push_by_two-requires-clause-room c = grind (arith, length-append, append-nil, c.edges_in.ensures.runs [])
