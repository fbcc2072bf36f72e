use Rattle.mask_bits.proofs.Common.{arith}
use Rattle.mask_bits.proofs.Lists.Words.WalkLemmas.{IsLeft-read}
use Rattle.mask_bits.proofs.scan.first_word.Goals as goal

pub returns-else-started_words-eq0-clause-is_left : goal.returns-else-started_words-eq0-clause-is_left
returns-else-started_words-eq0-clause-is_left c = IsLeft-read c.args.chunks.now 0 c.started_word.result c.started_word.type_inv c.started_word.ensures (omega (arith, c.started_words.ensures.words))
