use Rattle.mask_bits.proofs.Common.{◌*◌, arith}
use Rattle.mask_bits.proofs.CompareLemmas.{none-or, none-word, none-join}
use Rattle.mask_bits.proofs.compare.none_in_block.Goals as goal

pub loop-i-preserved : goal.loop-i-preserved
loop-i-preserved g c =
    grind (arith, none-or c.loop-i.found c.of-found.result, none-word, none-join g.C.BitOp.of_bits c.args.a.bytes.now c.args.b.bytes.now c.args.a.low c.args.b.low (64 * c.loop-i.i) 64)
