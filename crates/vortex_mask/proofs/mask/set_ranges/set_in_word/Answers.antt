use Rattle.vortex_mask.proofs.Masks.SetRangeLemmas.{set-in_word}
use Rattle.vortex_mask.proofs.mask.set_ranges.set_in_word.Goals as goal

pub returns : goal.returns
returns c =
    set-in_word c.args.bytes.now c.set_word.new.bytes c.args.i c.args.low c.args.high c.word_of.result c.requires.few_low c.requires.few_high
    c.word_of.ensures c.set_word.ensures.here c.set_word.ensures.others
