use Rattle.mask_bits.proofs.Common.{◌≡◌, ◌*◌, take, chosen}
use Rattle.mask_bits.proofs.choose.rows.choose_small_rows.Given as goal

-- the rows of the words so far
abbrev pub invariant-loop-i : goal.invariant-loop-i
invariant-loop-i g l = record {
  items : g.R.Room.items l.out ≡ chosen (take (64 * l.i) l.rows) (take (64 * l.i) l.chunks);
  kept : g.R.Room.kept l.out ≡ g.R.Room.kept l.fn.out;
}
