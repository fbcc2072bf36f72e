use Rattle.mask_c.proofs.Common.{subst, arith, IsWritten}
use Rattle.mask_c.proofs.WriteLemmas.{written-in_byte, written-none}
use Rattle.mask_c.proofs.write_at.write_in_byte.Goals as goal

pub returns-then-more_len-eq0 : goal.returns-then-more_len-eq0
returns-then-more_len-eq0 c = subst (IsWritten c.args.bytes.now c.args.bytes.now c.args.start c.args.more.now c.args.more_offset) (omega (arith, c.if-more_len-eq0.true)) (written-none c.args.bytes.now c.args.more.now c.args.start c.args.more_offset)

pub returns : goal.returns
returns c =
    written-in_byte c.args.bytes.now c.args.more.now c.args.start c.args.more_len c.blend.result c.args.more_offset c.word_at-word.result
    c.requires.one (omega (arith, c.if-more_len-eq0.false)) c.requires.within c.word_at-word.ensures c.blend.ensures.put c.blend.ensures.kept
