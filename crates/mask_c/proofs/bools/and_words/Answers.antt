use Rattle.mask_c.proofs.NarrowedLemmas.{narrowed-more}
use Rattle.mask_c.proofs.bools.and_words.Goals as goal

pub loop-i-preserved : goal.loop-i-preserved
loop-i-preserved c =
    narrowed-more c.args.bytes.now c.loop-i.bytes c.set_word.new.bytes c.args.values.now c.loop-i.i c.word_of.result c.word_of_bools.result
    c.loop-i.invariant c.word_of.ensures c.word_of_bools.ensures c.set_word.ensures.here c.set_word.ensures.others
