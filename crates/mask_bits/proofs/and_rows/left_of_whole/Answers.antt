use Rattle.mask_bits.proofs.Common.{arith, FnReturnsAt}
use Rattle.mask_bits.proofs.LeftLemmas.{left_by_answers, none_past}
use Rattle.mask_bits.proofs.and_rows.left_of_whole.Goals as goal

pub left_one_by_one-requires-clause-within : goal.left_one_by_one-requires-clause-within
left_one_by_one-requires-clause-within g c = λ j. none_past c.args.rows.now c.args.word j c.requires.whole c.ranges.word.fits

pub returns-else-word-many : goal.returns-else-word-many
returns-else-word-many g c =
    left_by_answers (FnReturnsAt g.F.Fn c.args.test.now) c.args.rows.now c.args.word c.word_of_whole.result (omega (arith, c.requires.whole)) c.word_of_whole.ensures
