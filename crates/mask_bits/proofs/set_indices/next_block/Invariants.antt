use Rattle.mask_bits.proofs.Common.{◌≡◌, ◌*◌, take, positions}
use Rattle.mask_bits.proofs.set_indices.next_block.Given as goal

-- none so far
abbrev pub invariant-loop-i : goal.invariant-loop-i
invariant-loop-i l = positions (take (256 * l.i) l.chunks) ≡ positions (take (256 * l.fn.from) l.chunks)
