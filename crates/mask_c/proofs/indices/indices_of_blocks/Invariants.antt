use Rattle.mask_c.proofs.Common.{◌≡◌, ◌+◌, ◌*◌, map, take, positions}
use Rattle.mask_c.proofs.indices.indices_of_blocks.Given as goal

-- the indices of the blocks so far
abbrev pub invariant-loop-i : goal.invariant-loop-i
invariant-loop-i g l = record {
  indices : g.R.Room.items l.out ≡ map (λ p. g.N.RowIndex.index_of (l.from + p)) (positions (take (256 * l.i) l.chunks));
  kept : g.R.Room.kept l.out ≡ g.R.Room.kept l.fn.out;
}
