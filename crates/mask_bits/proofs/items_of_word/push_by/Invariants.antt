use Rattle.mask_bits.proofs.Common.{◌≡◌, ◌-◌, ◌++◌, length, ArePushed, items_of, word_bits}
use Rattle.mask_bits.proofs.items_of_word.push_by.Given as goal

abbrev pub invariant-loop-items : goal.invariant-loop-items
invariant-loop-items g l = record {
  pushed : ArePushed (g.R.Room.items l.fn.out ++ items_of (g.W.WordItems.at l.items) (word_bits l.word)) (g.R.Room.items l.out) (items_of (g.W.WordItems.at l.items) (word_bits l.left));
  kept : g.R.Room.kept l.out ≡ g.R.Room.kept l.fn.out;
}

abbrev pub decreases-loop-items : goal.decreases-loop-items
decreases-loop-items g l = l.end - length (g.R.Room.items l.out)
