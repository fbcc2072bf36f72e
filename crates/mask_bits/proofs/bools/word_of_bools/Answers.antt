use Rattle.mask_bits.proofs.Common.{arith}
use Rattle.mask_bits.proofs.BoolsLemmas.{lanes-none, lanes-more}
use Rattle.mask_bits.proofs.bools.word_of_bools.Goals as goal

pub loop-j-init : goal.loop-j-init
loop-j-init c = lanes-none 64 c.args.bools.now

pub loop-j-preserved : goal.loop-j-preserved
loop-j-preserved c = lanes-more 64 c.args.bools.now c.loop-j.lanes c.loop-j.j (omega arith) c.loop-j.invariant
