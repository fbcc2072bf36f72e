use Rattle.mask_bits.proofs.Common.{arith}
use Rattle.mask_bits.proofs.RunWordLemmas.{count-of_starts}
use Rattle.mask_bits.proofs.run_words.count_starts.Goals as goal

pub returns : goal.returns
returns c = count-of_starts c.args.inside c.args.word c.bits_before.result c.ranges.word.fits (omega arith) c.bits_before.ensures.bits
