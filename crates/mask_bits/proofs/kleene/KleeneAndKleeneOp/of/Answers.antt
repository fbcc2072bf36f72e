use Rattle.mask_bits.proofs.KleeneLemmas.{words-and}
use Rattle.mask_bits.proofs.kleene.KleeneAndKleeneOp.of.Goals as goal

pub returns : goal.returns
returns c = λ a b x y. words-and a b _ _ _ _ x y
