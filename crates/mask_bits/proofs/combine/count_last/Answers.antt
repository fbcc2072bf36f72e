use Rattle.mask_bits.proofs.CombineLemmas.{AreCombined-step}
use Rattle.mask_bits.proofs.combine.count_last.Goals as goal

pub returns-clause-list : goal.returns-clause-list
returns-clause-list g c =
    AreCombined-step g.C.BitOp.of_bits c.args.a.bytes.now c.args.b.bytes.now c.args.out.now c.set_word.new.bytes c.args.a.low c.args.b.low c.args.i _ _ _
    c.requires.before c.word.ensures c.word-2.ensures c.of-word.ensures c.set_word.ensures.here c.set_word.ensures.others
