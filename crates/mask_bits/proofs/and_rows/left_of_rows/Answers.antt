use Rattle.mask_bits.proofs.Common.{length, bit_and, FnReturnsAt}
use Rattle.mask_bits.proofs.LeftLemmas.{left_by_answers, left_of_low, low_clear}
use Rattle.mask_bits.proofs.and_rows.left_of_rows.Goals as goal

pub left_one_by_one-requires-clause-within : goal.left_one_by_one-requires-clause-within
left_one_by_one-requires-clause-within g c =
    λ j. low_clear c.low_bits-word.result c.args.word (length c.args.rows.now) j c.low_bits-word.type_inv c.low_bits-word.ensures c.requires.few

pub returns-then-word-many : goal.returns-then-word-many
returns-then-word-many g c =
    left_of_low (FnReturnsAt g.F.Fn c.args.test.now) c.args.rows.now c.low_bits-word.result c.args.word c.left_one_by_one.result c.low_bits-word.ensures c.requires.few c.left_one_by_one.ensures

pub returns-else-word-many : goal.returns-else-word-many
returns-else-word-many g c =
    left_of_low (FnReturnsAt g.F.Fn c.args.test.now) c.args.rows.now c.low_bits-word.result c.args.word (bit_and c.low_bits-word.result c.word_of_rows.result) c.low_bits-word.ensures c.requires.few
    (left_by_answers (FnReturnsAt g.F.Fn c.args.test.now) c.args.rows.now c.low_bits-word.result c.word_of_rows.result c.requires.few c.word_of_rows.ensures)
