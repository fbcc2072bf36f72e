use Rattle.mask_bits.proofs.Common.{◌≡◌, ◌+◌, List, length, ArePushed, items_of, word_bits}
use Rattle.mask_bits.proofs.items_of_word.push_some.Given as goal

-- the items so far
abbrev pub invariant-loop : goal.invariant-loop
invariant-loop g l = record {
  pushed : (all : List g.row.W-Item.Denot) → ArePushed all (g.R.Room.items l.fn.out) (items_of (g.W.WordItems.at l.items) (word_bits l.word)) → ArePushed all (g.R.Room.items l.out) (items_of (g.W.WordItems.at l.items) (word_bits l.left));
  len : length (g.R.Room.items l.out) ≡ length (g.R.Room.items l.fn.out) + l.counter;
  kept : g.R.Room.kept l.out ≡ g.R.Room.kept l.fn.out;
}
