use Rattle.mask_bits.proofs.KleeneLemmas.{word-absent}
use Rattle.mask_bits.proofs.kleene.NullableBitmap.word.Goals as goal

pub returns-in-None : goal.returns-in-None
returns-in-None c = word-absent c.args.self c.word_at-values.result _ _ c.in-None.is c.word_at-values.ensures c.new-in-None.ensures
