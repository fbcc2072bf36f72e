use Rattle.mask_bits.proofs.Common.{AreLanesOf}
use Rattle.mask_bits.proofs.bools.word_of_bools.Given as goal

-- the values so far have their lanes
abbrev pub invariant-loop-j : goal.invariant-loop-j
invariant-loop-j l = AreLanesOf 64 l.bools l.j l.lanes
