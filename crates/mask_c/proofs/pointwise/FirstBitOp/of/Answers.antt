use Rattle.mask_c.proofs.Common.{sym, ◌∙◌, word_bits, length-word_bits}
use Rattle.mask_c.proofs.BitmapLemmas.{first_of}
use Rattle.mask_c.proofs.pointwise.FirstBitOp.of.Goals as goal

pub returns : goal.returns
returns c = first_of (word_bits c.args.x) (word_bits c.args._y) (length-word_bits c.args.x ∙ sym (length-word_bits c.args._y))
