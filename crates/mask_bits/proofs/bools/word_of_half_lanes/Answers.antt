use Rattle.mask_bits.proofs.Common.{arith}
use Rattle.mask_bits.proofs.BoolsLemmas.{lane_bits}
use Rattle.mask_bits.proofs.bools.word_of_half_lanes.Goals as goal

pub returns : goal.returns
returns c j h = lane_bits c.args.lanes.now 32 j (omega arith) (omega arith) h
