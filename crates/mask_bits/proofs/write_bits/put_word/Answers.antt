use Rattle.mask_bits.proofs.Common.{common_steps, arith, length-take}
use Rattle.mask_bits.proofs.Lists.Words.WordLemmas.{length-word_bits}
use Rattle.mask_bits.proofs.WriteLemmas.{written-first_word, written-one, written-two}
use Rattle.mask_bits.proofs.write_bits.put_word.Goals as goal

pub returns-then-low-count-gt64 : goal.returns-then-low-count-gt64
returns-then-low-count-gt64 c =
    grind (arith, written-two c.args.bytes.now c.set_word.new.bytes c.set_word-then-low-count-gt64.new.bytes c.args.at c.args.count c.low_bits-word.result, written-first_word)

pub returns-else-low-count-gt64 : goal.returns-else-low-count-gt64
returns-else-low-count-gt64 c = grind (arith, common_steps, length-take, length-word_bits, written-one, written-first_word)
