use Rattle.mask_bits.proofs.Common.{◌≡◌, ℕ, ◌+◌, ◌*◌, ◌≤◌, length, get_or, values, count_below}
use Rattle.mask_bits.proofs.ranks.Ranks.from_buffer.Given as goal

-- the counts before the blocks so far, and before the next one
abbrev pub invariant-loop-block : goal.invariant-loop-block
invariant-loop-block l = record {
  len : length l.before.items ≡ l.block + 1;
  each : (i : ℕ) → i ≤ l.block → get_or l.before.items i 0 ≡ count_below (values l.fn.buffer) (512 * i);
  count : l.count ≡ count_below (values l.fn.buffer) (512 * l.block);
}
