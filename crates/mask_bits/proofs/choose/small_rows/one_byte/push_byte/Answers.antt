use Rattle.mask_bits.proofs.Common.{◌+◌, count_ones, length, ap, arith, length-append, ones-le, take-append-add}
use Rattle.std.proofs.lemmas.List.{length-take}
use Rattle.mask_bits.proofs.ByteLemmas.{count-byte}
use Rattle.mask_bits.proofs.choose.small_rows.one_byte.push_byte.Goals as goal

pub truncate-requires : goal.truncate-requires
truncate-requires g c =
    omega (arith, c.count-before.ensures.count, ap length c.push_eight.ensures.items, length-append (g.R.Room.items c.args.out.now) c.rows_of_byte.result, c.rows_of_byte.type_inv, ones-le 8 c.args.byte c.ranges.byte.fits)

pub returns-clause-rows : goal.returns-clause-rows
returns-clause-rows g c = grind (arith, take-append-add)

pub returns-clause-len : goal.returns-clause-len
returns-clause-len g c =
    omega (arith, c.count-before.ensures.count, ap length c.push_eight.ensures.items, length-append (g.R.Room.items c.args.out.now) c.rows_of_byte.result, c.rows_of_byte.type_inv, ones-le 8 c.args.byte c.ranges.byte.fits, ap length c.truncate.ensures.items, length-take (c.count-before.result + count_ones c.args.byte) (g.R.Room.items c.push_eight.new.out), count-byte c.args.byte c.ranges.byte.fits)
