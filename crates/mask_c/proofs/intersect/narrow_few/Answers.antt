use Rattle.mask_c.proofs.Common.{◌+◌, ◌*◌, below_more, count_ones, inl, sym, ap, ◌∙◌, arith, bitmap, values, rank_intersection, length-rank_intersection, padded_part-whole, count-word_bits, IsAt, place-after_within, place-next, place-within, rank_place-fits, started_words_are_the_list}
use Rattle.mask_c.proofs.LastLemmas.{window-kept}
use Rattle.mask_c.proofs.intersect.narrow_few.Goals as goal
use Rattle.mask_c.proofs.intersect.narrow_few.Goals.{After-word-word}

-- the word of a turn, and the ranks, of which there are as many as true values
here : (c : After-word-word) → IsAt c.args.chunks.now c.loop-i.i c.loop-i.at c.word-word.result (count_ones c.word-word.result)
here c = record {
  place = c.loop-i.invariant.place;
  shows = c.word-word.ensures ∙ padded_part-whole c.args.chunks.now c.loop-i.i (omega (arith, c.loop-i-test, c.len-i-end.ensures));
  counted = sym (count-word_bits c.word-word.result c.word-word.type_inv);
}

pub narrow_word-requires-clause-counted : goal.narrow_word-requires-clause-counted
narrow_word-requires-clause-counted c = sym (count-word_bits c.word-word.result c.word-word.type_inv)

pub narrow_word-requires-clause-fits : goal.narrow_word-requires-clause-fits
narrow_word-requires-clause-fits c =
    let start = (goal.at.narrow_word-requires-clause-fits c).After-word-word in
    rank_place-fits c.args.chunks.now c.args.ranks.now c.loop-i.at c.requires.fitting (place-within c.args.chunks.now c.loop-i.i c.loop-i.at c.loop-i.invariant.place) c.requires.within.fits

pub overflow_add-at : goal.overflow_add-at
overflow_add-at c =
    let start = (goal.at.overflow_add-at c).After-word-word in
    omega (arith, rank_place-fits c.args.chunks.now c.args.ranks.now _ c.requires.fitting (place-after_within (here start)) c.requires.within.fits)

pub loop-i-preserved : goal.loop-i-preserved
loop-i-preserved c =
    let start = (goal.at.loop-i-preserved c).After-word-word in
    record {
      place = place-next (here start);
      words = below_more _ _
          (λ k h. window-kept c.loop-i.out c.set_word.new.bytes (64 * k) (λ j few. c.set_word.ensures.others (64 * k + j) (inl (omega arith))) ∙ c.loop-i.invariant.words k h)
          (c.set_word.ensures.here ∙ c.narrow_word.ensures c.args.chunks.now c.loop-i.i c.requires.fitting c.loop-i.invariant.place (here start).shows);
    }

pub returns : goal.returns
returns c =
    let r = rank_intersection c.args.chunks.now (values c.args.ranks.now) in
    let len = length-rank_intersection c.args.chunks.now (values c.args.ranks.now) in
    ap (bitmap c.loop-i.out 0) (sym len)
    ∙ started_words_are_the_list r c.loop-i.out (λ i h. c.loop-i.invariant.words i (omega (arith, h, len, c.loop-i-test, c.len-i-end.ensures, c.requires.whole)))
