use Rattle.mask_bits.proofs.Common.{◌*◌, AreChosenSoFar}
use Rattle.mask_bits.proofs.choose.bits.put_pairs.Given as goal

-- the values chosen in the pairs so far
abbrev pub invariant-loop-pair : goal.invariant-loop-pair
invariant-loop-pair l = AreChosenSoFar l.values l.masks (2 * l.pair) l.fn.out l.out l.last.word l.last.count
