use Rattle.mask_c.proofs.Common.{ℕ, ◌≡◌, ◌+◌, ◌*◌, ◌<◌, get_or, bitmap, count_below, window, word_bits}
use Rattle.mask_c.proofs.rank_words.row_mask_rank_words.Given as goal

-- the rank bits beside each word so far, and how many values are true before the next one
abbrev pub invariant-loop-i : goal.invariant-loop-i
invariant-loop-i l = record {
  place : l.at ≡ count_below (bitmap l.bytes l.offset l.len) (64 * (l.from + l.i));
  sources : (k : ℕ) → k < l.i → word_bits (get_or l.sources k 0) ≡ window l.ranks.bytes (l.ranks.offset + count_below (bitmap l.bytes l.offset l.len) (64 * (l.from + k)));
}
