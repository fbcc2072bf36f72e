use Rattle.mask_bits.proofs.Common.{◌≡◌, ◌+◌, ◌*◌, ◌++◌, drop, length, map, count, indices_from, word_bits}
use Rattle.mask_bits.proofs.indices_of_word.push_by_bytes.Given as goal

-- the indices so far, and those of the bytes that are left, are all
abbrev pub invariant-loop-j : goal.invariant-loop-j
invariant-loop-j g l =
    let of = g.N.RowIndex.index_of in
    record {
      items : g.R.Room.items l.indices ++ map of (indices_from (l.base + 8 * l.j) (drop (8 * l.j) (word_bits l.word))) ≡ g.R.Room.items l.fn.indices ++ map of (indices_from l.base (word_bits l.word));
      counted : length (g.R.Room.items l.indices) + count (drop (8 * l.j) (word_bits l.word)) ≡ length (g.R.Room.items l.fn.indices) + count (word_bits l.word);
      kept : g.R.Room.kept l.indices ≡ g.R.Room.kept l.fn.indices;
    }
