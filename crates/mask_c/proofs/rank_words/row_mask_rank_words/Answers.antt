use Rattle.mask_c.proofs.Common.{get_or, ◌≡◌, ◌<◌, ◌≢◌, ◌+◌, ◌*◌, length, get_or-set_same, get_or-set_other, below_more, ap, ◌∙◌, arith, count_ones, bitmap, Packed, count, count_below, window, count-word_more, count-word_bits, count_below-le}
use Rattle.mask_c.proofs.rank_words.row_mask_rank_words.Goals as goal

pub read-requires : goal.read-requires
read-requires c =
    let m = bitmap c.args.bytes.now c.args.offset c.args.len in
    omega (arith, c.loop-i.invariant.place, count_below-le m (64 * (c.args.from + c.loop-i.i)), c.requires.fitting, c.requires.ranks.fits, ap (λ (b : Packed). b.offset) c.over-ranks.ensures.bits)

pub overflow_add-at : goal.overflow_add-at
overflow_add-at c =
    let i = c.loop-i.i in
    let m = bitmap c.args.bytes.now c.args.offset c.args.len in
    let word = get_or c.row_mask_words.new.out i 0 in
    let k = c.args.from + i in
    omega (arith, c.loop-i.invariant.place, count-word_more m k, ap count (c.row_mask_words.ensures.words i (omega (arith, c.loop-i-test))), count-word_bits word (omega (arith, c.type_inv.words i)), count_below-le m (64 * (k + 1)), c.requires.fitting, c.requires.ranks.fits)

pub loop-i-preserved : goal.loop-i-preserved
loop-i-preserved c =
    let i = c.loop-i.i in
    let m = bitmap c.args.bytes.now c.args.offset c.args.len in
    let ranks = c.over-ranks.result in
    let word = get_or c.row_mask_words.new.out i 0 in
    let k = c.args.from + i in
    let next : 64 * (k + 1) ≡ 64 * (c.args.from + (i + 1)) = omega arith in
    let place : c.loop-i.at + count_ones word ≡ count_below m (64 * (c.args.from + (i + 1)))
    = omega (arith, c.loop-i.invariant.place, count-word_more m k, ap count (c.row_mask_words.ensures.words i (omega (arith, c.loop-i-test))), count-word_bits word (omega (arith, c.type_inv.words i))) ∙ ap (count_below m) next in
    record {
      place = place;
      sources = below_more _ _
          (λ j h. let ne : j ≢ i = omega arith in rw get_or-set_other (c.loop-i.invariant.sources j h))
          (let lt : i < length c.loop-i.sources = omega arith in rw get_or-set_same (c.read.ensures ∙ ap (λ n. window ranks.bytes (ranks.offset + n)) c.loop-i.invariant.place));
    }
