use Rattle.mask_bits.proofs.Common.{◌≡◌, ℕ, ◌*◌, ◌<◌, false, get_or, backing_bit}
use Rattle.mask_bits.proofs.bools.put_bools.Given as goal

-- the values of the words so far are written
abbrev pub invariant-loop-i : goal.invariant-loop-i
invariant-loop-i l = (p : ℕ) → p < 64 * l.i → backing_bit l.bytes p ≡ get_or l.bools p false
