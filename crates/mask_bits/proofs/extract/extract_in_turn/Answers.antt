use Rattle.mask_bits.proofs.Common.{arith}
use Rattle.mask_bits.proofs.Lists.Words.ExtractLemmas.{IsExtractedTo-some, IsExtractedTo-more, Extracts-all, count-of_word}
use Rattle.mask_bits.proofs.extract.extract_in_turn.Goals as goal

pub overflow_shl-result : goal.overflow_shl-result
overflow_shl-result c =
    let l = c.loop-left in
    omega (arith, IsExtractedTo-some c.args.source c.args.mask l.left l.at l.result (omega (arith, c.loop-left-test.true)) l.auto.left-fits.fits l.invariant, count-of_word c.args.mask)

pub overflow_add-at : goal.overflow_add-at
overflow_add-at c = record { fits = omega (arith, overflow_shl-result c) }

pub loop-left-preserved : goal.loop-left-preserved
loop-left-preserved c =
    let l = c.loop-left in
    IsExtractedTo-more c.args.source c.args.mask l.left l.at l.result (omega (arith, c.loop-left-test.true)) l.auto.left-fits.fits l.invariant

pub returns : goal.returns
returns c = grind (arith, Extracts-all)
