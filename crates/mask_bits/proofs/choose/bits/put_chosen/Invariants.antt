use Rattle.mask_bits.proofs.Common.{AreChosenSoFar}
use Rattle.mask_bits.proofs.choose.bits.put_chosen.Given as goal

-- the values chosen in the words so far
abbrev pub invariant-loop-i : goal.invariant-loop-i
invariant-loop-i l = AreChosenSoFar l.values l.masks l.i l.fn.out l.out l.last.word l.last.count
