use Rattle.mask_c.proofs.Common.{take}
use Rattle.mask_c.proofs.FromIndicesLemmas.{AreSetAt}
use Rattle.mask_c.proofs.from_indices.set_alone.Given as goal

-- the set bits are those at the positions so far
abbrev pub invariant-loop-position : goal.invariant-loop-position
invariant-loop-position g l = AreSetAt g.N.RowIndex.row_number l.bytes (take l.position-index l.positions)
