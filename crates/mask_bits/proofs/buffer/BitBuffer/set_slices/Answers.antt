use Rattle.mask_bits.proofs.Common.{arith}
use Rattle.mask_bits.proofs.Lists.Runs.RunLemmas.{length-AreRuns}
use Rattle.mask_bits.proofs.buffer.BitBuffer.set_slices.Goals as goal

pub returns-clause-fits : goal.returns-clause-fits
returns-clause-fits c = grind (arith, length-AreRuns)
