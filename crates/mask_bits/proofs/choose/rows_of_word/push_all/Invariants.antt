use Rattle.mask_bits.proofs.Common.{◌≡◌, ◌++◌, take}
use Rattle.mask_bits.proofs.choose.rows_of_word.push_all.Given as goal

-- the rows so far
abbrev pub invariant-loop-j : goal.invariant-loop-j
invariant-loop-j g l = record {
  items : g.R.Room.items l.out ≡ g.R.Room.items l.fn.out ++ take l.j l.rows;
  kept : g.R.Room.kept l.out ≡ g.R.Room.kept l.fn.out;
}
