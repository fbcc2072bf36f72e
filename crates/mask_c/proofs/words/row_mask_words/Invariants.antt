use Rattle.mask_c.proofs.Common.{ℕ, ◌≡◌, ◌+◌, ◌<◌, drop, get_or, padded_part, word_bits}
use Rattle.mask_c.proofs.words.row_mask_words.Given as goal

-- the words so far, and what is behind them as it was
abbrev pub invariant-loop-i : goal.invariant-loop-i
invariant-loop-i l = record {
  words : (k : ℕ) → k < l.i → word_bits (get_or l.out k 0) ≡ padded_part l.chunks (l.from + k);
  behind : drop l.i l.out ≡ drop l.i l.fn.out;
}
