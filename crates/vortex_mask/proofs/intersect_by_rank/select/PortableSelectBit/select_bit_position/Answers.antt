use Rattle.vortex_mask.proofs.Common.{arith, word_bits, count-le-length, length-word_bits}
use Rattle.vortex_mask.proofs.Deposits.ByteLemmas.{byte_at-lt}
use Rattle.vortex_mask.proofs.Deposits.SelectionLemmas.{below-small, bit-there, selected-there}
use Rattle.vortex_mask.proofs.intersect_by_rank.select.PortableSelectBit.select_bit_position.Goals as goal

pub last_byte_within-number-requires-clause-rank : goal.last_byte_within-number-requires-clause-rank
last_byte_within-number-requires-clause-rank c = omega (arith, c.requires, count-le-length (word_bits c.args.word), length-word_bits c.args.word)

pub last_byte_within-number-requires-clause-small : goal.last_byte_within-number-requires-clause-small
last_byte_within-number-requires-clause-small c = below-small c.args.word _ c.counts_below_bytes-below.ensures

pub place_in_byte-requires-clause-byte : goal.place_in_byte-requires-clause-byte
place_in_byte-requires-clause-byte c = omega (arith, c.byte_of-2.ensures, byte_at-lt c.args.word c.last_byte_within-number.result)

pub place_in_byte-requires-clause-rank : goal.place_in_byte-requires-clause-rank
place_in_byte-requires-clause-rank c = rw (c.byte_of.ensures, c.byte_of-2.ensures) (bit-there c.args.word _ c.counts_below_bytes-below.ensures c.args.rank _ c.last_byte_within-number.ensures.inside c.last_byte_within-number.ensures.within c.ranges.word.fits c.requires c.last_byte_within-number.ensures.last)

pub returns : goal.returns
returns c =
    let place = c.place_in_byte.ensures in
    selected-there c.args.word _ c.counts_below_bytes-below.ensures c.args.rank _ c.last_byte_within-number.ensures.inside c.last_byte_within-number.ensures.within
    c.place_in_byte.result place.inside (rw (← c.byte_of-2.ensures) place.set) (rw (← c.byte_of.ensures, ← c.byte_of-2.ensures) place.number)
