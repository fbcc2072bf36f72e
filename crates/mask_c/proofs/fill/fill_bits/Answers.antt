use Rattle.mask_c.proofs.Common.{◌+◌, arith}
use Rattle.mask_c.proofs.FillLemmas.{filled-join, filled-none}
use Rattle.mask_c.proofs.fill.fill_bits.Goals as goal

pub loop-position-init : goal.loop-position-init
loop-position-init c = filled-none c.args.bytes.now c.args.start c.args.value

pub loop-position-preserved : goal.loop-position-preserved
loop-position-preserved c =
    let i = c.loop-position.position in
    filled-join c.args.bytes.now c.loop-position.bytes c.fill_bit.new.bytes c.args.start i (i + 1) c.args.value (omega arith) (omega arith) c.loop-position.invariant c.fill_bit.ensures
