use Rattle.mask_bits.proofs.Common.{◌≡◌, ◌+◌, ◌++◌, length, IsSome, count, positions, items_of, word_bits, All}
use Rattle.mask_bits.proofs.items_of_word.push_one_by_one.Given as goal

-- the items so far, and those that are left, are all
abbrev pub invariant-loop-left : goal.invariant-loop-left
invariant-loop-left g l =
    let at = g.W.WordItems.at l.items in
    record {
      items : g.R.Room.items l.out ++ items_of at (word_bits l.left) ≡ g.R.Room.items l.fn.out ++ items_of at (word_bits l.word);
      counted : length (g.R.Room.items l.out) + count (word_bits l.left) ≡ length (g.R.Room.items l.fn.out) + count (word_bits l.word);
      kept : g.R.Room.kept l.out ≡ g.R.Room.kept l.fn.out;
      each : All (λ p. IsSome (at p)) (positions (word_bits l.left));
    }

abbrev pub decreases-loop-left : goal.decreases-loop-left
decreases-loop-left g l = l.left
