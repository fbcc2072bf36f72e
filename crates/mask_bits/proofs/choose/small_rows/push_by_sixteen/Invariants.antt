use Rattle.mask_bits.proofs.Common.{◌≡◌, ◌+◌, ◌*◌, ◌/◌, ◌^◌, ◌++◌, drop, length, chosen, count, word_bits}
use Rattle.mask_bits.proofs.choose.small_rows.push_by_sixteen.Given as goal

-- the rows so far, and those of the bits that are left, are all
abbrev pub invariant-loop-j : goal.invariant-loop-j
invariant-loop-j g l = record {
  items : g.R.Room.items l.out ++ chosen (drop (16 * l.j) l.rows) (word_bits l.left) ≡ g.R.Room.items l.fn.out ++ chosen l.rows (word_bits l.word);
  counted : length (g.R.Room.items l.out) + count (word_bits l.left) ≡ length (g.R.Room.items l.fn.out) + count (word_bits l.word);
  within : l.left ≡ l.word / 2 ^ (16 * l.j);
  kept : g.R.Room.kept l.out ≡ g.R.Room.kept l.fn.out;
}
