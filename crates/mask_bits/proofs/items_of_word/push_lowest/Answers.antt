use Rattle.mask_bits.proofs.Common.{ap, subst, sym, ArePushed, items_of, word_bits}
use Rattle.mask_bits.proofs.Lists.Places.PushLemmas.{ArePushed-more, cleared, items_of-next, items_of-zero}
use Rattle.mask_bits.proofs.items_of_word.push_lowest.Goals as goal

pub returns-clause-pushed : goal.returns-clause-pushed
returns-clause-pushed g c all so_far =
    let w = c.args.word in
    let at = g.W.WordItems.at c.args.items in
    subst (λ xs. ArePushed all xs (items_of at (word_bits (cleared w)))) (sym c.put.ensures.items)
    (ArePushed-more w all _ _ _ _ (items_of-next at w _ c.ranges.word.fits c.lowest.ensures) (items_of-zero at w) (λ none. items_of-zero at (cleared w) (ap cleared none)) so_far)
