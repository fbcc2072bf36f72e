use Rattle.mask_c.proofs.Common.{◌≡◌, List, Bool, ◌+◌, ◌*◌, ◌/◌, ◌-◌, ◌++◌, take, sym, ap, ap₂, ◌∙◌, arith, length-take, bitmap, count, rank_intersection, word_bits, bitmap-append, length-bitmap, window-take, deposit_is_rank_intersection}
use Rattle.mask_c.proofs.LastLemmas.{written-narrowed}
use Rattle.mask_c.proofs.intersect.narrow_rows.Goals as goal

pub returns-clause-values : goal.returns-clause-values
returns-clause-values c =
    let bytes = c.args.bytes.now in
    let ranks = c.args.ranks.now in
    let len = c.args.len in
    let begin = c.args.ranks_offset in
    let mask = c.remainder_and_count-word.result.0 in
    let ones = c.remainder_and_count-word.result.1 in
    let before = c.args.ranks_len - ones in
    let source = c.word_at-source.result in
    let front = c.narrow_whole.new.out in
    let all : before + ones ≡ c.args.ranks_len = omega (arith, c.requires.fitting, c.remainder_and_count-word.ensures.all) in
    let reads : take (count (word_bits mask)) (word_bits source) ≡ bitmap ranks (begin + before) ones
    = ap₂ take (sym c.remainder_and_count-word.ensures.ones) c.word_at-source.ensures ∙ window-take ranks (begin + before) ones c.remainder_and_count-word.ensures.few in
    c.put_remainder.ensures.list
    ∙ written-narrowed bytes c.args.offset len (bitmap ranks begin before) front _ mask source c.deposit_bits.result
    (omega (arith, c.narrow_whole.auto.out, length-take (8 * (len / 64)) c.args.out.now, c.requires.room))
    (length-bitmap ranks begin before ∙ omega (arith, c.requires.fitting, c.remainder_and_count-word.ensures.all))
    (ap (bitmap front 0) (sym c.new-front.ensures.len) ∙ c.narrow_whole.ensures ∙ ap (λ (m : List Bool). rank_intersection m (bitmap ranks begin before)) c.new-front.ensures.list)
    c.remainder_and_count-word.ensures.word (deposit_is_rank_intersection source mask c.deposit_bits.result c.deposit_bits.ensures)
    ∙ ap (rank_intersection (bitmap bytes c.args.offset len))
    (ap (λ (xs : List Bool). bitmap ranks begin before ++ xs) reads ∙ sym (bitmap-append ranks begin before ones) ∙ ap (bitmap ranks begin) all)
