use Rattle.mask_bits.proofs.Common.{◌*◌, ◌+◌, ◌≡◌, sym, arith, count_ones, bitmap, count}
use Rattle.mask_bits.proofs.Lists.Words.BackingBitLemmas.{count-bitmap-le}
use Rattle.mask_bits.proofs.Lists.CountLemmas.{count-append}
use Rattle.mask_bits.proofs.Lists.Words.FrontLemmas.{front-more_word}
use Rattle.mask_bits.proofs.Lists.Words.WordLemmas.{count-word_bits}
use Rattle.mask_bits.proofs.counts.count_words.Goals as goal

more : (c : goal.After-word_of) → count (bitmap c.args.bytes.now 0 (64 * (c.loop-i.i + 1))) ≡ c.loop-i.count + count_ones c.word_of.result
more c = grind (arith, front-more_word, count-append, count-word_bits)

pub overflow_add-count : goal.overflow_add-count
overflow_add-count c = grind (arith, more c, count-bitmap-le c.args.bytes.now 0 (64 * (c.loop-i.i + 1)))

pub loop-i-preserved : goal.loop-i-preserved
loop-i-preserved c = sym (more c)
