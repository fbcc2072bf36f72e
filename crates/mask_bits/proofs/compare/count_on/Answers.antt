use Rattle.mask_bits.proofs.Common.{◌*◌, ◌+◌, arith}
use Rattle.mask_bits.proofs.CompareLemmas.{count-at_most, count-step}
use Rattle.mask_bits.proofs.compare.count_on.Goals as goal

pub overflow_add-count : goal.overflow_add-count
overflow_add-count g c =
    grind (arith, count-at_most g.C.BitOp.of_bits c.args.a.bytes.now c.args.b.bytes.now c.args.a.low c.args.b.low (64 * (c.loop-i.i + 1)), count-step)

pub loop-i-preserved : goal.loop-i-preserved
loop-i-preserved g c = grind (arith, count-step)
