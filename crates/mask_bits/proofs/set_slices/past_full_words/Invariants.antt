use Rattle.mask_bits.proofs.Common.{◌≡◌, ◌*◌, ◌≤◌, ◌<◌, ◌^◌, ℕ, length, word_bits, padded_part, PassesTrue}
use Rattle.mask_bits.proofs.set_slices.past_full_words.Given as goal

-- the words so far are full
abbrev pub invariant-loop-i : goal.invariant-loop-i
invariant-loop-i l = record {
  within : 64 * l.i ≤ length l.chunks;
  passes : (next : ℕ) → next < 2 ^ 64 → word_bits next ≡ padded_part l.chunks l.i → PassesTrue l.chunks l.fn.at l.fn.word l.i next;
}
