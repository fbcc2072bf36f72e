use Rattle.mask_bits.proofs.Common.{◌*◌, ◌/◌, arith}
use Rattle.mask_bits.proofs.CombineLemmas.{between-join, values-in_place}
use Rattle.mask_bits.proofs.combine.combine_in_place.Goals as goal

pub returns-then-len-ne0 : goal.returns-then-len-ne0
returns-then-len-ne0 g c =
    grind (arith, values-in_place, between-join _ _ _ _ _ _ _ (64 * (c.args.len / 64)) _ (omega arith) (omega arith) c.change_whole.ensures c.change_last.ensures)

pub returns-else-len-ne0 : goal.returns-else-len-ne0
returns-else-len-ne0 g c = grind (arith, values-in_place)
