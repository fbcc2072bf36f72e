use Rattle.mask_bits.proofs.Common.{◌-◌, bit_and, get_or, AreLanes}
use Rattle.mask_bits.proofs.Lists.Words.GatherLemmas.{closed_from}
use Rattle.mask_bits.proofs.extract.two_words.gather_in_bytes.Given as goal

-- the places from 7 - passed on have closed up
abbrev pub invariant-loop-passed : goal.invariant-loop-passed
invariant-loop-passed l = AreLanes 16 l.bits (λ j. closed_from (7 - l.passed) (get_or l.masks j 0) (bit_and (get_or l.fn.sources j 0) (get_or l.masks j 0)))
