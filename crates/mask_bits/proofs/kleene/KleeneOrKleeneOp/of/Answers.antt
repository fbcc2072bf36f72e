use Rattle.mask_bits.proofs.KleeneLemmas.{words-or}
use Rattle.mask_bits.proofs.kleene.KleeneOrKleeneOp.of.Goals as goal

pub returns : goal.returns
returns c = λ a b x y. words-or a b _ _ _ _ x y
