use Rattle.mask_bits.proofs.Common.{arith}
use Rattle.mask_bits.proofs.ChosenBitLemmas.{clear-behind, put-full_clear}
use Rattle.mask_bits.proofs.choose.bits.put_behind.Goals as goal

pub returns-clause-begun : goal.returns-clause-begun
returns-clause-begun c = λ j from. put-full_clear c.args.last.count c.args.word c.args.count j (omega (arith, c.if-low-count-lt64.false)) c.requires.few (clear-behind c.args.word c.args.count c.ranges.word.fits c.requires.word) from
