use Rattle.mask_bits.proofs.Common.{◌≡◌, ◌+◌, ◌-◌, ◌*◌, ◌<◌, ◌++◌, All, drop, length, chosen, count, positions, word_bits}
use Rattle.mask_bits.proofs.choose.small_rows.push_last_small_rows.Given as goal

-- the rows so far, and those of the bits that are left, are all
abbrev pub invariant-loop-j : goal.invariant-loop-j
invariant-loop-j g l = record {
  items : g.R.Room.items l.out ++ chosen (drop (16 * l.j) l.rows) (word_bits l.left) ≡ g.R.Room.items l.fn.out ++ chosen l.rows (word_bits l.word);
  counted : length (g.R.Room.items l.out) + count (word_bits l.left) ≡ length (g.R.Room.items l.fn.out) + count (word_bits l.word);
  within : All (λ p. p < length l.rows - 16 * l.j) (positions (word_bits l.left));
  kept : g.R.Room.kept l.out ≡ g.R.Room.kept l.fn.out;
}
