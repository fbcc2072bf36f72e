use Rattle.mask_bits.proofs.Common.{w8, arith}
use Rattle.mask_bits.proofs.ByteRowLemmas.{SwzOk-all, lanes-rows}
use Rattle.mask_bits.proofs.choose.small_rows.one_byte.rows_of_byte.Goals as goal

pub swizzle : goal.swizzle
swizzle c = SwzOk-all w8 8 c.places_of.result c.places_of.ensures.lanes c.places_of.ensures.inside

pub returns : goal.returns
returns c = lanes-rows w8 8 c.args.rows.now c.places_of.result c.args.byte (omega arith) (omega arith) c.requires.eight c.places_of.ensures.lanes c.places_of.ensures.inside c.places_of.ensures.places
