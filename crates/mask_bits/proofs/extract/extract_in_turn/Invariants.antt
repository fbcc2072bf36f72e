use Rattle.mask_bits.proofs.Lists.Words.ExtractLemmas.{IsExtractedTo}
use Rattle.mask_bits.proofs.extract.extract_in_turn.Given as goal

-- the bits at the lowest set places so far are there, and the other places are left
abbrev pub invariant-loop-left : goal.invariant-loop-left
invariant-loop-left l = IsExtractedTo l.source l.mask l.left l.at l.result

abbrev pub decreases-loop-left : goal.decreases-loop-left
decreases-loop-left l = l.left
