use Rattle.mask_bits.proofs.Common.{◌≡◌, ◌*◌, ◌≤◌, ℕ, false, get_or, length, started_words}
use Rattle.mask_bits.proofs.chunks.BitChunks.last_set_index.Given as goal

-- no value of the words so far is true
abbrev pub invariant-loop-i : goal.invariant-loop-i
invariant-loop-i l = record {
  within : l.i ≤ started_words (length l.self);
  none : (p : ℕ) → 64 * l.i ≤ p → get_or l.self p false ≡ false;
}

abbrev pub decreases-loop-i : goal.decreases-loop-i
decreases-loop-i l = l.i
