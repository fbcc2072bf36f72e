use Rattle.mask_bits.proofs.Common.{◌≡◌, ◌+◌, ◌*◌, take, count}
use Rattle.mask_bits.proofs.chunks.BitChunks.select_from.Given as goal

-- the true values of the words so far, and those still to pass
abbrev pub invariant-loop-i : goal.invariant-loop-i
invariant-loop-i l = count (take (64 * l.first) l.self) + l.fn.n ≡ count (take (64 * l.i) l.self) + l.left
