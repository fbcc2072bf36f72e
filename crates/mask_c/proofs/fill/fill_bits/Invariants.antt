use Rattle.mask_c.proofs.Common.{IsFilled}
use Rattle.mask_c.proofs.fill.fill_bits.Given as goal

-- the bits so far are filled
abbrev pub invariant-loop-position : goal.invariant-loop-position
invariant-loop-position l = IsFilled l.fn.bytes l.bytes l.start l.position l.value
