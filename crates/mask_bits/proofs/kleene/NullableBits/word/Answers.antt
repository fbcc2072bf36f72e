use Rattle.mask_bits.proofs.KleeneLemmas.{word-with}
use Rattle.mask_bits.proofs.kleene.NullableBits.word.Goals as goal

pub returns : goal.returns
returns g c = word-with c.args.self c.args.i c.word.result c.word-2.result _ _ c.word.ensures c.word-2.ensures c.new.ensures
