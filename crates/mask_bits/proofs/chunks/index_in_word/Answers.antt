use Rattle.mask_bits.proofs.Common.{◌+◌, ◌<◌, ℕ, Some, count_ones, ap, sym, subst, arith, ◌∙◌, and_mask, count, take_all, word_bits}
use Rattle.mask_bits.proofs.Lists.Places.HalfLemmas.{index_of_place, place_in_lowest}
use Rattle.mask_bits.proofs.Lists.Words.WordLemmas.{count_below-word_bits, length-word_bits}
use Rattle.mask_bits.proofs.chunks.index_in_word.Goals as goal

pub half_of-half-requires-clause-within : goal.half_of-half-requires-clause-within
half_of-half-requires-clause-within c = subst (λ m. c.args.n < count m) (sym (take_all 64 (word_bits c.args.word) (omega (arith, length-word_bits c.args.word)))) c.requires

pub place_in_byte-requires-clause-rank : goal.place_in_byte-requires-clause-rank
place_in_byte-requires-clause-rank c = omega (arith, ap count_ones (and_mask c.half_of-byte.result.0 8), count_below-word_bits c.half_of-byte.result.0 8 (omega arith), c.half_of-byte.ensures.within)

pub returns-clause-index : goal.returns-clause-index
returns-clause-index c =
    let p : ℕ = c.place_in_byte.result in
    let lowest = place_in_lowest c.half_of-byte.result.0 c.half_of-byte.result.1 p c.place_in_byte.ensures.inside c.place_in_byte.ensures.set c.place_in_byte.ensures.number in
    let of_byte = c.half_of-byte.ensures.place p c.place_in_byte.ensures.inside lowest in
    let of_quarter = c.half_of-quarter.ensures.place (c.half_of-byte.result.2 + p) (omega (arith, c.half_of-byte.ensures.few, c.place_in_byte.ensures.inside)) of_byte in
    let of_half = c.half_of-half.ensures.place (c.half_of-quarter.result.2 + (c.half_of-byte.result.2 + p)) (omega (arith, c.half_of-quarter.ensures.few, c.half_of-byte.ensures.few, c.place_in_byte.ensures.inside)) of_quarter in
    let few : c.half_of-half.result.2 + (c.half_of-quarter.result.2 + (c.half_of-byte.result.2 + p)) < 64
    = omega (arith, c.half_of-half.ensures.few, c.half_of-quarter.ensures.few, c.half_of-byte.ensures.few, c.place_in_byte.ensures.inside) in
    index_of_place c.args.word c.args.n _ few of_half ∙ ap Some (omega arith)
