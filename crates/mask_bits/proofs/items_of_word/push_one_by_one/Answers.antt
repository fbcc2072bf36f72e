use Rattle.mask_bits.proofs.Common.{◌<◌, ◌-◌, ◌++◌, ◌∷◌, [], subst, sym, ap, ◌∙◌, length, append_assoc, arith, IsSome, length-append, All-head, All-tail, positions, items_of, word_bits, bit_and, All}
use Rattle.mask_bits.proofs.Lists.Places.PushLemmas.{items_of-lowest}
use Rattle.mask_bits.proofs.Lists.Places.SelectLemmas.{positions-lowest}
use Rattle.mask_bits.proofs.Lists.Words.LowestLemmas.{low}
use Rattle.mask_bits.proofs.items_of_word.push_one_by_one.Goals as goal

pub lowest-requires : goal.lowest-requires
lowest-requires g c =
    let w = c.loop-left.left in
    let at = g.W.WordItems.at c.args.items in
    All-head (λ p. IsSome (at p)) (low w) _ (subst (All (λ p. IsSome (at p))) (positions-lowest w (omega (arith, c.loop-left-test.true)) c.loop-left.auto.left-fits.fits) c.loop-left.invariant.each)

pub loop-left-preserved : goal.loop-left-preserved
loop-left-preserved g c =
    let w = c.loop-left.left in
    let at = g.W.WordItems.at c.args.items in
    let before = g.R.Room.items c.loop-left.out in
    let rest = bit_and w (w - 1) in
    let so_far = c.loop-left.invariant in
    let some : 0 < w = omega (arith, c.loop-left-test.true) in
    let fits = c.loop-left.auto.left-fits.fits in
    let first = positions-lowest w some fits in
    record {
      items = ap (λ xs. xs ++ items_of at (word_bits rest)) c.put.ensures.items ∙ append_assoc before _ (items_of at (word_bits rest))
          ∙ ap (λ xs. before ++ xs) (sym (items_of-lowest at w _ some fits c.lowest.ensures)) ∙ so_far.items;
      counted = omega (arith, ap length first, ap length c.put.ensures.items, length-append before (c.lowest.result ∷ []), so_far.counted);
      kept = c.put.ensures.kept ∙ so_far.kept;
      each = All-tail (λ p. IsSome (at p)) (low w) (positions (word_bits rest)) (subst (All (λ p. IsSome (at p))) first so_far.each);
    }
