use Rattle.mask_bits.proofs.Common.{◌≡◌, ◌+◌, ◌<◌, ◌^◌, ◌++◌, map, take, All, count, positions, word_bits}
use Rattle.mask_bits.proofs.indices_of_word.put_indices_up_to.Given as goal

-- the indices so far and those of the bits that are left are the indices of the word
abbrev pub invariant-loop-place : goal.invariant-loop-place
invariant-loop-place g l =
    let of = g.N.RowIndex.index_of in
    record {
      indices : take l.place l.out ++ map (λ p. of (l.first + p)) (positions (word_bits l.left))
          ≡ take l.at l.fn.out ++ map (λ p. of (l.first + p)) (positions (word_bits l.word));
      counted : l.place + count (word_bits l.left) ≡ l.at + count (word_bits l.word);
      fits : All (λ p. l.first + p < 2 ^ 64) (positions (word_bits l.left));
    }
