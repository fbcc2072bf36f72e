use Rattle.mask_bits.proofs.Common.{◌≡◌, ◌+◌, ◌*◌, ◌++◌, drop, length, map, count, indices_from, bits_of_words}
use Rattle.mask_bits.proofs.blocks.push_each.Given as goal

-- the indices so far, and those of the words that are left, are all
abbrev pub invariant-loop-j : goal.invariant-loop-j
invariant-loop-j g l =
    let of = g.N.RowIndex.index_of in
    record {
      items : g.R.Room.items l.indices ++ map of (indices_from (l.base + 64 * l.j) (bits_of_words (drop l.j l.words))) ≡ g.R.Room.items l.fn.indices ++ map of (indices_from l.base (bits_of_words l.words));
      counted : length (g.R.Room.items l.indices) + count (bits_of_words (drop l.j l.words)) ≡ length (g.R.Room.items l.fn.indices) + count (bits_of_words l.words);
      kept : g.R.Room.kept l.indices ≡ g.R.Room.kept l.fn.indices;
    }
