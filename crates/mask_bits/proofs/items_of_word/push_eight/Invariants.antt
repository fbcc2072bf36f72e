use Rattle.mask_bits.proofs.Common.{◌≡◌, ◌++◌, take}
use Rattle.mask_bits.proofs.items_of_word.push_eight.Given as goal

-- the items so far
abbrev pub invariant-loop-k : goal.invariant-loop-k
invariant-loop-k g l = record {
  items : g.R.Room.items l.out ≡ g.R.Room.items l.fn.out ++ take l.k l.items;
  kept : g.R.Room.kept l.out ≡ g.R.Room.kept l.fn.out;
}
